-- Big-endian numbers: the value of the bytes, and the bytes of the value, at every width.
use mathlib.Core.Path.{◌≡◌, refl, sym, ap, ◌∙◌}
use mathlib.Core.List.{List, [], ◌∷◌, ◌++◌}
use Prim.Native.Nat.{ℕ, zero, suc, ◌+◌, ◌-◌, ◌*◌, ◌/◌, ◌%◌, ◌^◌, ◌≤◌, ◌<◌}
use native.Mathlib.Numerals.{add-one}
use native.Mathlib.Omega.{arith}
use native.Mathlib.Nat.{mod-one, mul_comm, pow-suc, pow-le-pow_right, mod-lt, mod-eq_of_lt, div-eq_of_lt, mul-add-div_right, mul-add-mod_self_right, mul-le-mul_right, add-zero, mul_assoc, add-mul}
use lib.ListN.{length, get_or, take, drop, length-append, length-drop}
use lib.Seq.{length-take-le, get_or-drop, take-suc}
use lib.Dec.{lit<}
use lib.Pow.{pow-add}
use lib.Arith.{mod-mul}
use Rattle.forms.specs.Bytes.{big_endian, value_of, Bytes}

pub positive : (w : ℕ) → 0 < 256 ^ w
positive zero = lit< tt
positive (suc w) = omega (arith, pow-suc 256 w, positive w)

pub length-big_endian : (w v : ℕ) → length (big_endian w v) ≡ w
unfolding big_endian
length-big_endian zero v = refl
length-big_endian (suc w) v = ap suc (length-big_endian w v)

-- the value of the bytes of a value
value_low : (w v : ℕ) → value_of (big_endian w v) ≡ v % 256 ^ w
unfolding big_endian value_of
value_low zero v = sym (mod-one v)
value_low (suc w) v = rw (length-big_endian w v, value_low w v, pow-suc 256 w, mul_comm (256 ^ w) 256) (sym (mod-mul v (lit< tt) (positive w)))

pub value-big_endian : (w v : ℕ) → v < 256 ^ w → value_of (big_endian w v) ≡ v
value-big_endian w v h = value_low w v ∙ mod-eq_of_lt h

-- a value of n bytes is below 256 ^ n
pub value_bound : (l : List ℕ) → Bytes l → value_of l < 256 ^ length l
unfolding value_of
value_bound [] h = lit< tt
value_bound (x ∷ l) h =
    let b : x < 256 = h 0 in
    let c : x ≤ 255 = omega arith in
    omega (arith, pow-suc 256 (length l), value_bound l (λ i. h (suc i)), mul-le-mul_right (256 ^ length l) c)

-- what lies above the lowest w bytes does not matter
big_endian-low : (w n x v : ℕ) → w ≤ n → big_endian w (x * 256 ^ n + v) ≡ big_endian w v
unfolding big_endian
big_endian-low zero n x v h = refl
big_endian-low (suc w) n x v h =
    let k : n ≡ n - suc w + 1 + w = omega arith in
    let d : (x * 256 ^ n + v) / 256 ^ w ≡ x * 256 ^ (n - suc w) * 256 + v / 256 ^ w =
    ap (λ m. (x * 256 ^ m + v) / 256 ^ w) k
    ∙ rw (pow-add 256 (n - suc w + 1) w, pow-add 256 (n - suc w) 1, ← mul_assoc x (256 ^ (n - suc w) * 256 ^ 1) (256 ^ w), ← mul_assoc x (256 ^ (n - suc w)) (256 ^ 1))
    (mul-add-div_right (positive w) (x * 256 ^ (n - suc w) * 256) v) in
    rw (d, mul-add-mod_self_right (x * 256 ^ (n - suc w)) 256 (v / 256 ^ w), big_endian-low w n x v (omega arith))

-- the bytes of the value of bytes
pub big_endian-value : (l : List ℕ) → Bytes l → big_endian (length l) (value_of l) ≡ l
unfolding big_endian value_of
big_endian-value [] h = refl
big_endian-value (x ∷ l) h =
    let t : Bytes l = λ i. h (suc i) in
    let v : value_of l < 256 ^ length l = value_bound l t in
    rw (mul-add-div_right (positive (length l)) x (value_of l), div-eq_of_lt v, add-zero, mod-eq_of_lt (h 0), big_endian-low (length l) (length l) x (value_of l) (omega arith), big_endian-value l t)

-- they are bytes
pub bytes-big_endian : (w v : ℕ) → Bytes (big_endian w v)
unfolding big_endian
bytes-big_endian zero v i = lit< tt
bytes-big_endian (suc w) v zero = mod-lt (v / 256 ^ w) (lit< tt)
bytes-big_endian (suc w) v (suc i) = bytes-big_endian w v i

-- the value of two parts
pub value-append : (a c : List ℕ) → value_of (a ++ c) ≡ value_of a * 256 ^ length c + value_of c
unfolding value_of
value-append [] c = omega arith
value-append (x ∷ a) c =
    rw (length-append a c, pow-add 256 (length a) (length c), value-append a c, add-mul, mul_assoc) (omega arith)

-- parts of bytes are bytes, and bytes one after the other
pub bytes_drop : (n : ℕ) (l : List ℕ) → Bytes l → Bytes (drop n l)
bytes_drop n l h i = rw get_or-drop (h (n + i))

pub bytes_take : (n : ℕ) (l : List ℕ) → Bytes l → Bytes (take n l)
bytes_take zero l h i = lit< tt
bytes_take (suc n) [] h i = lit< tt
bytes_take (suc n) (x ∷ l) h zero = h 0
bytes_take (suc n) (x ∷ l) h (suc i) = bytes_take n l (λ j. h (suc j)) i

pub bytes-append : (a c : List ℕ) → Bytes a → Bytes c → Bytes (a ++ c)
bytes-append [] c h k i = k i
bytes-append (x ∷ a) c h k zero = h 0
bytes-append (x ∷ a) c h k (suc i) = bytes-append a c (λ j. h (suc j)) k i

pub length_part : (b : List ℕ) (at n : ℕ) → at + n ≤ length b → length (take n (drop at b)) ≡ n
length_part b at n h = let k : n ≤ length (drop at b) = omega (arith, length-drop at b) in length-take-le n (drop at b) k

-- ---- a loop over bytes
pub value-more : (l : List ℕ) (i : ℕ) → i < length l → value_of (take (i + 1) l) ≡ value_of (take i l) * 256 + get_or l i 0
unfolding value_of
value-more l i h = rw (add-one, take-suc l i 0 h, value-append (take i l) (get_or l i 0 ∷ [])) (omega arith)

pub bound_more : (i v x : ℕ) → v < 256 ^ i → x < 256 → v * 256 + x < 256 ^ (i + 1)
bound_more i v x h k = rw add-one (omega (arith, pow-suc 256 i))

-- a byte more fits 64 bits
pub bound_64 : (i v : ℕ) → i < 8 → v < 256 ^ i → v < 2 ^ 56
bound_64 i v h k =
    let j : i ≤ 7 = omega arith in
    let p : 256 ^ i ≤ 256 ^ 7 = pow-le-pow_right {n = 256} (lit< tt) {i = i} {j = 7} j in
    omega arith
