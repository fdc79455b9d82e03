-- The four words: of two composites exactly one holds, and what each says of weakly before.
use mathlib.Core.Path.{◌≡◌, refl, sym, ap, ◌∙◌}
use mathlib.Core.Bool.{Bool, true, false, not, ◌&&◌, ◌||◌}
use mathlib.Core.List.{List}
use Prim.Native.Nat.{ℕ}
use lib.Dec.{eqb}
use Rattle.sequences.specs.Choice.{pick}
use Rattle.sequences.specs.Members.{◌is_in◌}
use Rattle.sequences.specs.Select.{each_passes, some_passes}
use Rattle.sequences.proofs.Booleans.{false_of_not_true, never_both}
use Rattle.sequences.proofs.Select.{all_of, any_of}
use Rattle.timestamps.specs.declared.Order.{Order}
use Rattle.timestamps.specs.declared.Order.TheVariants.{Incomparable, Before, After, Concurrent}
use Rattle.timestamps.specs.declared.Timestamp.{Timestamp}
use Rattle.timestamps.specs.Comparison.{all_before, all_concurrent, order_number, order_of, relation_of, same_order, says, stamps_weakly_before}
use Rattle.timestamps.specs.Composite.{IsComposite}
use Rattle.timestamps.specs.Order.{Clocks, before, concurrent}
use Rattle.timestamps.proofs.Composites.{before-weakly, concurrent-both, concurrent-not, concurrent-weakly, not-weakly}

-- ---- a word chosen by three tests, and what each word tells of them
chosen : Bool → Bool → Bool → Order
chosen p q r = pick p Before (pick q After (pick r Concurrent Incomparable))

tells : Bool → Bool → Bool → Order → Bool
tells p q r Before = p
tells p q r After = q
tells p q r Concurrent = r
tells p q r Incomparable = not (p || (q || r))

chosen_tells : (p q r : Bool) → tells p q r (chosen p q r) ≡ true
unfolding chosen tells
chosen_tells true q r = refl
chosen_tells false true r = refl
chosen_tells false false true = refl
chosen_tells false false false = refl

-- where no two of the tests hold together, no other word tells true
only_chosen : (p q r : Bool) → (p ≡ true → q ≡ false) → (p ≡ true → r ≡ false) → (q ≡ true → r ≡ false) → (w : Order) → tells p q r w ≡ true → w ≡ chosen p q r
unfolding chosen tells
only_chosen true q r f g h Before e = refl
only_chosen true q r f g h After e = absurd (never_both e (f refl))
only_chosen true q r f g h Concurrent e = absurd (never_both e (g refl))
only_chosen true q r f g h Incomparable e = absurd (never_both e refl)
only_chosen false q r f g h Before e = absurd (never_both e refl)
only_chosen false true r f g h After e = refl
only_chosen false false r f g h After e = absurd (never_both e refl)
only_chosen false true r f g h Concurrent e = absurd (never_both e (h refl))
only_chosen false false true f g h Concurrent e = refl
only_chosen false false false f g h Concurrent e = absurd (never_both e refl)
only_chosen false true r f g h Incomparable e = absurd (never_both e refl)
only_chosen false false true f g h Incomparable e = absurd (never_both e refl)
only_chosen false false false f g h Incomparable e = refl

is-first : (p q r : Bool) → same_order (chosen p q r) Before ≡ p
unfolding chosen same_order order_number
is-first true q r = refl
is-first false true r = refl
is-first false false true = refl
is-first false false false = refl

is_second : (p q r : Bool) → (p ≡ true → q ≡ false) → same_order (chosen p q r) After ≡ q
unfolding chosen same_order order_number
is_second true q r f = sym (f refl)
is_second false true r f = refl
is_second false false true f = refl
is_second false false false f = refl

-- the number tells the word
word_at : ℕ → Order
word_at n = pick (eqb n 1) Before (pick (eqb n 2) After (pick (eqb n 3) Concurrent Incomparable))

word_at_lem : (w : Order) → word_at (order_number w) ≡ w
unfolding word_at order_number
word_at_lem Incomparable = refl
word_at_lem Before = refl
word_at_lem After = refl
word_at_lem Concurrent = refl

pub number_tells : (v w : Order) → order_number v ≡ order_number w → v ≡ w
number_tells v w e = sym (word_at_lem v) ∙ ap word_at e ∙ word_at_lem w

module _ (clocks : Clocks) where
  -- ---- after excludes weakly before; so no two of before, after and concurrent hold together
  pub after_not_weakly : (a b : List Timestamp) {s : Timestamp} → s is_in a → all_before clocks b a ≡ true → stamps_weakly_before clocks a b ≡ false
  unfolding all_before
  after_not_weakly a b {s} i e =
      let (t, j, y) = any_of (λ t. before clocks t s) b (all_of (λ s. some_passes (λ t. before clocks t s) b) a e i) in
      not-weakly clocks a b i j y

  module _ (a b : List Timestamp) (c : IsComposite clocks a) where
    pub one_way : all_before clocks a b ≡ true → all_before clocks b a ≡ false
    one_way e = false_of_not_true _ (λ f. never_both (before-weakly clocks a b c e) (after_not_weakly a b c.some.1 f))

    after_apart : all_before clocks b a ≡ true → all_concurrent clocks a b ≡ false
    after_apart e = false_of_not_true _ (λ f. never_both (concurrent-weakly clocks a b f) (after_not_weakly a b c.some.1 e))

  before_apart : (a b : List Timestamp) {t : Timestamp} → t is_in b → all_before clocks a b ≡ true → all_concurrent clocks a b ≡ false
  unfolding all_before all_concurrent
  before_apart a b {t} j e = false_of_not_true _ (λ f.
      let (s, i, y) = any_of (λ s. before clocks s t) a (all_of (λ t. some_passes (λ s. before clocks s t) a) b e j) in
      never_both y (concurrent-not clocks s t (all_of (λ s. concurrent clocks s t) a (all_of (λ t. each_passes (λ s. concurrent clocks s t) a) b f j) i)))

  -- ---- the word by its tests
  says_tells : (w : Order) (a b : List Timestamp) → says w clocks a b ≡ tells (all_before clocks a b) (all_before clocks b a) (all_concurrent clocks a b) w
  unfolding says tells
  says_tells Before a b = refl
  says_tells After a b = refl
  says_tells Concurrent a b = refl
  says_tells Incomparable a b = refl

  order_chosen : (a b : List Timestamp) → order_of clocks a b ≡ chosen (all_before clocks a b) (all_before clocks b a) (all_concurrent clocks a b)
  unfolding order_of says chosen
  order_chosen a b = refl

  pub is-before : (a b : List Timestamp) → same_order (order_of clocks a b) Before ≡ all_before clocks a b
  is-before a b = rw (order_chosen a b) (is-first (all_before clocks a b) (all_before clocks b a) (all_concurrent clocks a b))

  pub is_after : (a b : List Timestamp) → IsComposite clocks a → same_order (order_of clocks a b) After ≡ all_before clocks b a
  is_after a b c = rw (order_chosen a b) (is_second (all_before clocks a b) (all_before clocks b a) (all_concurrent clocks a b) (one_way a b c))

  pub word_before : (a b : List Timestamp) → all_before clocks a b ≡ true → order_of clocks a b ≡ Before
  unfolding order_of says
  word_before a b e = rw e

  pub word_after : (a b : List Timestamp) → IsComposite clocks b → all_before clocks b a ≡ true → order_of clocks a b ≡ After
  unfolding order_of says
  word_after a b d e = rw (one_way b a d e, e)

  module _ (a b : List Timestamp) (e : all_before clocks a b ≡ false) (f : all_before clocks b a ≡ false) where
    pub word_concurrent : stamps_weakly_before clocks a b ≡ true → stamps_weakly_before clocks b a ≡ true → order_of clocks a b ≡ Concurrent
    unfolding order_of says
    word_concurrent g h = rw (e, f, concurrent-both clocks a b, g, h)

    pub word_incomparable : (stamps_weakly_before clocks a b && stamps_weakly_before clocks b a) ≡ false → order_of clocks a b ≡ Incomparable
    unfolding order_of says
    word_incomparable g = rw (e, f, concurrent-both clocks a b, g)

  -- ---- exactly one word holds: that of the comparison does, and no other
  pub word_holds : (a b : List Timestamp) → says (order_of clocks a b) clocks a b ≡ true
  word_holds a b = says_tells (order_of clocks a b) a b ∙ rw (order_chosen a b) (chosen_tells (all_before clocks a b) (all_before clocks b a) (all_concurrent clocks a b))

  pub word_only : (a b : List Timestamp) → IsComposite clocks a → IsComposite clocks b → (w : Order) → says w clocks a b ≡ true → w ≡ order_of clocks a b
  word_only a b c d w e = rw (order_chosen a b)
      (only_chosen (all_before clocks a b) (all_before clocks b a) (all_concurrent clocks a b) (one_way a b c) (before_apart a b d.some.1) (after_apart a b c) w (sym (says_tells w a b) ∙ e))

  -- ---- what each word says of the yes or no beside it; of incomparable see J5 (Examples.antt)
  module _ (a b : List Timestamp) where
    -- what a word says, where it is the comparison's
    told : (w : Order) → (relation_of clocks a b).order ≡ w → says w clocks a b ≡ true
    unfolding relation_of
    told w e = ap (λ v. says v clocks a b) (sym e) ∙ word_holds a b

    pub before_gives : IsComposite clocks a → (relation_of clocks a b).order ≡ Before → (relation_of clocks a b).weakly_before ≡ true
    unfolding relation_of says
    before_gives c e = before-weakly clocks a b c (told Before e)

    pub concurrent_gives : (relation_of clocks a b).order ≡ Concurrent → (relation_of clocks a b).weakly_before ≡ true
    unfolding relation_of says
    concurrent_gives e = concurrent-weakly clocks a b (told Concurrent e)

    pub after_excludes : IsComposite clocks a → (relation_of clocks a b).order ≡ After → (relation_of clocks a b).weakly_before ≡ false
    unfolding relation_of says
    after_excludes c e = after_not_weakly a b c.some.1 (told After e)
