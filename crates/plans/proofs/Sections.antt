-- Laws of the plan's entries and sections, as the code's proofs cite them.
use mathlib.Core.Path.{◌≡◌, refl, sym, ap}
use mathlib.Core.List.{List, [], ◌∷◌, ◌++◌}
use mathlib.Core.Bool.{Bool, true, false, ◌&&◌}
use Prim.Native.Nat.{ℕ, ◌+◌, ◌<◌}
use native.Mathlib.Numerals.{add-one}
use native.Mathlib.Omega.{arith}
use lib.ListN.{length, take, set}
use lib.Dec.{leb, ltb}
use borrow.Author.Tests.{le-leb}
use Rattle.sequences.specs.Choice.{pick}
use Rattle.sequences.proofs.Arrays.{append-room}
use Rattle.forms.specs.Bytes.{value_at, Bytes}
use Rattle.forms.specs.Forms.{number, pair}
use Rattle.forms.specs.Sections.{unless, outside, piece}
use Rattle.forms.proofs.Forms.{Laws, number_laws, pair_laws, via_laws}
use Rattle.forms.proofs.Pieces.{piece-same}
use Rattle.plans.specs.Layout.{to_node, from_node, node}
use Rattle.plans.specs.Reader.{above, node_fault, nodes}
use Rattle.plans.specs.declared.Node.{Node}

-- ---- numbers that rise
pub above_snoc : (l : List ℕ) (x v : ℕ) → above (l ++ (x ∷ [])) v ≡ ltb x v
above_snoc [] x v = refl
above_snoc (y ∷ []) x v = refl
above_snoc (y ∷ z ∷ l) x v = above_snoc (z ∷ l) x v

-- the least number that may follow those of xs, with one more
pub least_more : (xs : List ℕ) (i x : ℕ) → i < length xs → (v : ℕ) → above (take (i + 1) (set xs i x)) v ≡ leb (x + 1) v
least_more xs i x h v = rw (append-room (length xs) xs i refl x h, above_snoc (take i xs) x v, add-one x)

pub rising-piece : (cut wrong : ℕ) (b : List ℕ) (at least : ℕ) (l : List ℕ) → Bytes b → ((v : ℕ) → above l v ≡ leb least v)
    → piece (number 2) cut (outside least 65535 wrong) b at ≡ piece (number 2) cut (λ v. unless (above l v) wrong 0) b at
rising-piece cut wrong b at least l B e =
    piece-same (number 2) cut (outside least 65535 wrong) (λ v. unless (above l v) wrong 0) b at
    (λ r. rw (e (value_at 2 b at)) (go (leb least (value_at 2 b at)) (leb (value_at 2 b at) 65535) (le-leb (value_at 2 b at) 65535 (omega (arith, (number_laws 2).fit b at B r)))))
  where
    go : (t u : Bool) → u ≡ true → ◌≡◌ {A = ℕ} (pick (t && u) 0 wrong) (pick t 0 wrong)
    go true u k = rw k
    go false u k = refl

-- ---- nodes
pub node_laws : Laws node
node_laws =
    let two = pair (number 2) (number 2) in
    let inputs = pair (number 2) two in
    via_laws to_node from_node (pair (number 1) (pair (number 1) inputs))
    (pair_laws (number 1) (pair (number 1) inputs) (number_laws 1)
    (pair_laws (number 1) inputs (number_laws 1)
    (pair_laws (number 2) two (number_laws 2) (pair_laws (number 2) (number 2) (number_laws 2) (number_laws 2)))))
    (λ a. refl)
    (λ n. refl)

pub node-value : (b : List ℕ) (at o x l m t : ℕ)
    → o ≡ value_at 1 b at → x ≡ value_at 1 b (at + 1) → l ≡ value_at 2 b (at + 2) → m ≡ value_at 2 b (at + 4) → t ≡ value_at 2 b (at + 6)
    → record { operator = o; context = x; left = l; middle = m; third = t } ≡ node.value b at
node-value b at o x l m t eo ex el em et =
    let p : at + 1 + 1 + 2 + 2 ≡ at + 6 = omega arith in
    let q : at + 1 + 1 + 2 ≡ at + 4 = omega arith in
    let r : at + 1 + 1 ≡ at + 2 = omega arith in
    rw (p, q, r, eo, ex, el, em, et)

-- the fault of a node hangs on how many are before it
pub node-piece : (b : List ℕ) (at cut kinds place : ℕ) (l : List Node) → length l ≡ place
    → piece node cut (node_fault kinds place) b at ≡ piece node cut ((nodes kinds).entry_fault l) b at
node-piece b at cut kinds place l e = ap (λ m. piece node cut (node_fault kinds m) b at) (sym e)
