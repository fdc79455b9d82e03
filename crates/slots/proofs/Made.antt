-- The nodes of a plan as the code keeps them, and the rest of each seat.
use mathlib.Core.List.{List, map}
use mathlib.Core.Path.{◌≡◌, refl, sym, ap, ◌∙◌}
use Prim.Native.Nat.{ℕ, zero, suc, ◌+◌, ◌*◌, ◌≤◌, ◌<◌}
use native.Mathlib.Decide.{dec_lt, ℕ_discrete}
use native.Mathlib.Omega.{arith}
use lib.ListN.{get_or, length, length-map, length-set, length-take, set, take, get_or-map}
use lib.Seq.{get_or-set_other, get_or-set_same, get_or-take}
use Rattle.plans.specs.declared.Node.{Node}
use Rattle.plans.specs.declared.NodeRow.{NodeRow}
use Rattle.plans.specs.Layout.{inputs_of}
use Rattle.plans.specs.Limits.{no_node}
use Rattle.plans.specs.Views.{input_from, no_row, node_of}
use Rattle.progress.specs.Seats.{InputsSeated, Seated, list_end, made_room, made_start, seat_context}
use Rattle.progress.proofs.Parts.{made-room-most}
use Rattle.slots.specs.Steps.{AllInputs, AllSeated, total}
use Rattle.slots.proofs.Fillings.{total-most, total-next}
use Rattle.slots.proofs.Takers.{takers_kept}

-- ---- the nodes
-- the first n rows
abbrev pub first_nodes : ℕ → List NodeRow → List Node
first_nodes n rows = map node_of (take n rows)

module _ (n : ℕ) (rows : List NodeRow) where
  pub nodes-size : n ≤ length rows → n ≡ length (first_nodes n rows)
  nodes-size h = simp (length-map, length-take) (omega arith)

  pub node_at : (k : ℕ) → k < n → get_or (first_nodes n rows) k no_node ≡ node_of (get_or rows k no_row)
  unfolding input_from
  node_at k h = get_or-map node_of (take n rows) k no_row ∙ ap node_of (get_or-take n rows k no_row h)

pub node-input : (row : NodeRow) (i : ℕ) → i < 3 → input_from (get_or row.slots i 0) ≡ get_or (inputs_of (node_of row)) i 0
node-input row zero h = refl
node-input row (suc zero) h = refl
node-input row (suc (suc zero)) h = refl
node-input row (suc (suc (suc i))) h = absurd (omega arith)

-- ---- the inputs stay as they are
module _ (nodes : List Node) (places takers seats : List ℕ) (k a v : ℕ) (least : 11 * k ≤ a) (most : a < 11 * k + 2) (in-nodes : k ≤ length nodes) where
  abbrev after : List ℕ
  after = set seats a v

  same : (c j i : ℕ) → 2 ≤ c → c ≤ 4 → i < 3 → get_or after (11 * j + 3 * i + c) 0 ≡ get_or seats (11 * j + 3 * i + c) 0
  same c j i low high in_three =
      get_or-set_other seats a (11 * j + 3 * i + c) v 0 λ e. elim (dec_lt j k) [
        | yes h ↦ omega arith
        | no h ↦ omega arith
      ]

  ends_same : (j i : ℕ) → i < 3 → list_end after j i ≡ list_end seats j i
  ends_same j zero in_three = same 4 j 1 (omega arith) (omega arith) (omega arith)
  ends_same j (suc zero) in_three = same 4 j 2 (omega arith) (omega arith) (omega arith)
  ends_same j (suc (suc zero)) in_three = same 4 (j + 1) 0 (omega arith) (omega arith) (omega arith)
  ends_same j (suc (suc (suc i))) in_three = absurd (omega arith)

  inputs-kept : InputsSeated nodes places seats → InputsSeated nodes places after
  inputs-kept s =
      record {
        few = s.few;
        size = length-set seats a v ∙ s.size;
        action = λ j i in-n in_three. rw (same 2 j i (omega arith) (omega arith) in_three) (s.action j i in-n in_three);
        slot = λ j i in-n in_three. same 3 j i (omega arith) (omega arith) in_three ∙ s.slot j i in-n in_three;
        first = same 4 0 0 (omega arith) (omega arith) (omega arith) ∙ s.first;
        lists = λ j i in-n in_three. ends_same j i in_three ∙ s.lists j i in-n in_three
            ∙ rw (same 2 j i (omega arith) (omega arith) in_three, same 3 j i (omega arith) (omega arith) in_three, same 4 j i (omega arith) (omega arith) in_three);
        past = λ j m. same 4 j 0 (omega arith) (omega arith) (omega arith) ∙ s.past j m;
        made-past = λ j m. get_or-set_other seats a (11 * j + 1) v 0 (λ e. omega arith) ∙ s.made-past j m;
      }

  pub all_kept : AllInputs nodes places takers seats → AllInputs nodes places takers (set seats a v)
  all_kept s =
      record {
        inputs = inputs-kept s.inputs;
        taken = takers_kept seats after takers (length nodes) (λ j i in-n in_three. same 3 j i (omega arith) (omega arith) in_three) s.taken;
      }

-- ---- where what the nodes make begins
abbrev pub made_at : (takers : List ℕ) → ℕ → ℕ
made_at takers k = 1 + total (λ j. made_room (get_or takers (34 + j) 0)) k

made-most : (takers : List ℕ) (k : ℕ) → made_at takers k ≤ 8 * k + 1
made-most takers k = omega (arith, total-most (λ j. made_room (get_or takers (34 + j) 0)) 8 (λ j. made-room-most (get_or takers (34 + j) 0)) k)

made-next : (takers : List ℕ) (k : ℕ) → made_at takers (k + 1) ≡ made_at takers k + made_room (get_or takers (34 + k) 0)
made-next takers k = omega (arith, total-next (λ j. made_room (get_or takers (34 + j) 0)) k)

made-first-at : (takers : List ℕ) → made_at takers 0 ≡ 1
unfolding total
made-first-at takers = refl

-- with one start more
made-written : (takers seats : List ℕ) (k m : ℕ) → length seats ≡ 187 → k ≤ 16 → m ≡ made_at takers k → ((j : ℕ) → j < k → made_start seats j ≡ made_at takers j)
    → (j : ℕ) → j < k + 1 → made_start (set seats (11 * k + 1) m) j ≡ made_at takers j
made-written takers seats k m size few next before j h = elim (ℕ_discrete j k) [
  | yes e ↦ rw e (get_or-set_same seats (11 * k + 1) m 0 (omega arith) ∙ next)
  | no d ↦ get_or-set_other seats (11 * k + 1) (11 * j + 1) m 0 (λ e. d (omega arith)) ∙ before j (omega arith)
]

-- the rest of the seats of the nodes before k; what node k makes begins at m; the inputs are seated as at first
pub record Making (nodes : List Node) (takers first seats : List ℕ) (k m : ℕ) : Type 0 where
  pub size : length seats ≡ 187
  pub context : (j : ℕ) → j < k → seat_context seats j ≡ (get_or nodes j no_node).context
  pub starts : (j : ℕ) → j < k → made_start seats j ≡ made_at takers j
  pub next : m ≡ made_at takers k
  pub inputs : (places : List ℕ) → AllInputs nodes places takers first → AllInputs nodes places takers seats

module _ (nodes : List Node) (takers first : List ℕ) where
  pub making_start : length first ≡ 187 → Making nodes takers first first 0 1
  unfolding total
  making_start size = record { size = size; context = λ j h. absurd (omega arith); starts = λ j h. absurd (omega arith); next = refl; inputs = λ places s. s }

  module _ (seats : List ℕ) (k m : ℕ) (f : Making nodes takers first seats k m) where
    pub making_most : m ≤ 8 * k + 1
    making_most = omega (arith, f.next, made-most takers k)

    pub making_turn : (v room : ℕ) → length nodes ≤ 16 → k < length nodes → v ≡ (get_or nodes k no_node).context → room ≡ made_room (get_or takers (34 + k) 0)
        → Making nodes takers first (set (set seats (11 * k) v) (11 * k + 1) m) (k + 1) (m + room)
    making_turn v room few in-n of_node of-takers =
        record {
          size = simp length-set f.size;
          context = context;
          starts = made-written takers mid k m (length-set seats (11 * k) v ∙ f.size) (omega arith) f.next
              (λ j h. get_or-set_other seats (11 * k) (11 * j + 1) v 0 (λ e. omega arith) ∙ f.starts j h);
          next = omega (arith, f.next, made-next takers k);
          inputs = λ places s. all_kept nodes places takers mid k (11 * k + 1) m (omega arith) (omega arith) (omega arith)
              (all_kept nodes places takers seats k (11 * k) v (omega arith) (omega arith) (omega arith) (f.inputs places s));
        }
      where
        mid : List ℕ
        mid = set seats (11 * k) v

        context : (j : ℕ) → j < k + 1 → seat_context (set mid (11 * k + 1) m) j ≡ (get_or nodes j no_node).context
        context j h = get_or-set_other mid (11 * k + 1) (11 * j) m 0 (λ e. omega arith) ∙ elim (ℕ_discrete j k) [
          | yes e ↦ rw e (get_or-set_same seats (11 * k) v 0 (omega (arith, f.size)) ∙ of_node)
          | no d ↦ get_or-set_other seats (11 * k) (11 * j) v 0 (λ e. d (omega arith)) ∙ f.context j (omega arith)
        ]

    pub making_all : length nodes ≤ 16 → k ≡ length nodes → (places : List ℕ) → AllInputs nodes places takers first
        → AllSeated k nodes places takers (set seats (11 * k + 1) m)
    making_all few all places s = record { count = sym all; seated = seated; taken = kept.taken }
      where
        kept : AllInputs nodes places takers (set seats (11 * k + 1) m)
        kept = all_kept nodes places takers seats k (11 * k + 1) m (omega arith) (omega arith) (omega arith) (f.inputs places s)

        starts : (j : ℕ) → j < k + 1 → made_start (set seats (11 * k + 1) m) j ≡ made_at takers j
        starts = made-written takers seats k m f.size (omega arith) f.next f.starts

        seated : Seated nodes places takers (set seats (11 * k + 1) m)
        seated =
            record {
              inputs = kept.inputs;
              context = λ j h. get_or-set_other seats (11 * k + 1) (11 * j) m 0 (λ e. omega arith) ∙ f.context j (omega arith);
              made-first = starts 0 (omega arith) ∙ made-first-at takers;
              made = λ j h. starts (j + 1) (omega arith) ∙ made-next takers j ∙ ap (λ (x : ℕ). x + made_room (get_or takers (34 + j) 0)) (sym (starts j (omega arith)));
            }
