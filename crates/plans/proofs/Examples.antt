-- Plan P of document 01, with request Q-2, and its neighbours, computed by the definitions.
use mathlib.Core.Path.{◌≡◌, refl}
use mathlib.Core.List.{List, [], ◌∷◌, ◌++◌, map}
use Prim.Native.Nat.{ℕ}
use Rattle.forms.specs.Bytes.{big_endian, value_of}
use Rattle.forms.specs.Forms.{each, section_bytes}
use Rattle.forms.specs.Sections.{piece, entries, section}
use Rattle.plans.specs.Layout.{Plan, plan_bytes}
use Rattle.plans.specs.Reader.{plan_at, accepted, refused, read_plan}
use Rattle.plans.specs.declared.Node.{Node}

-- its clocks, loggers and kinds: 18 bytes
abbrev clocks_loggers_kinds : List ℕ
clocks_loggers_kinds =
    0 ∷ 1 ∷ 0 ∷ 0 ∷ 0 ∷ 0x0A
    ∷ 0 ∷ 2 ∷ 0 ∷ 1 ∷ 0 ∷ 2
    ∷ 0 ∷ 2 ∷ 0 ∷ 7 ∷ 0 ∷ 9 ∷ []

-- with nodes after them
abbrev with_nodes : List ℕ → List ℕ
with_nodes nodes = clocks_loggers_kinds ++ nodes

abbrev P : List ℕ
P = with_nodes (0 ∷ 1 ∷ 3 ∷ 1 ∷ 0 ∷ 0 ∷ 0 ∷ 1 ∷ 0xFF ∷ 0xFF ∷ [])

abbrev plan_of : List Node → Plan
plan_of nodes = record { ratio = 10; loggers = 1 ∷ 2 ∷ []; kinds = 7 ∷ 9 ∷ []; nodes = nodes }

abbrev seq : ℕ → ℕ → Node
seq left middle = record { operator = 3; context = 1; left = left; middle = middle; third = 65535 }

p_bytes : plan_bytes (plan_of (seq 0 1 ∷ [])) ≡ P
unfolding plan_bytes section_bytes each big_endian
p_bytes = refl

-- ---- accepted
p_accepted : read_plan P ≡ accepted (plan_of (seq 0 1 ∷ []))
unfolding read_plan plan_at section entries piece value_of
p_accepted = refl

same_inputs : read_plan (with_nodes (0 ∷ 1 ∷ 3 ∷ 1 ∷ 0 ∷ 1 ∷ 0 ∷ 1 ∷ 0xFF ∷ 0xFF ∷ [])) ≡ accepted (plan_of (seq 1 1 ∷ []))
unfolding read_plan plan_at section entries piece value_of
same_inputs = refl

-- node 1 takes node 0, at both sides
earlier_node : read_plan (with_nodes (0 ∷ 2 ∷ 3 ∷ 1 ∷ 0 ∷ 0 ∷ 0 ∷ 1 ∷ 0xFF ∷ 0xFF ∷ 3 ∷ 1 ∷ 0x80 ∷ 0 ∷ 0x80 ∷ 0 ∷ 0xFF ∷ 0xFF ∷ []))
    ≡ accepted (plan_of (seq 0 1 ∷ seq 32768 32768 ∷ []))
unfolding read_plan plan_at section entries piece value_of
earlier_node = refl

-- aperiodic and accumulated with a kind as the third input, absence with node 0
abbrev thirds : List Node
thirds =
    record { operator = 4; context = 1; left = 0; middle = 1; third = 0 }
    ∷ record { operator = 5; context = 1; left = 0; middle = 1; third = 1 }
    ∷ record { operator = 6; context = 4; left = 0; middle = 1; third = 32768 } ∷ []

third-inputs : read_plan (with_nodes (0 ∷ 3 ∷ 4 ∷ 1 ∷ 0 ∷ 0 ∷ 0 ∷ 1 ∷ 0 ∷ 0 ∷ 5 ∷ 1 ∷ 0 ∷ 0 ∷ 0 ∷ 1 ∷ 0 ∷ 1 ∷ 6 ∷ 4 ∷ 0 ∷ 0 ∷ 0 ∷ 1 ∷ 0x80 ∷ 0 ∷ []))
    ≡ accepted (plan_of thirds)
unfolding read_plan plan_at section entries piece value_of
third-inputs = refl

-- ---- turned back: bytes, the number, the place
record Case : Type 0 where
  bytes : List ℕ
  number : ℕ
  place : ℕ

abbrev case : List ℕ → ℕ → ℕ → Case
case bytes number place = record { bytes = bytes; number = number; place = place }

-- the rows of the table, in its order
abbrev cases : List Case
cases =
    case [] 1 0
    ∷ case (0 ∷ 1 ∷ 0 ∷ 0 ∷ 0 ∷ []) 1 2
    ∷ case (0 ∷ 2 ∷ []) 2 0
    ∷ case (0 ∷ 1 ∷ 0 ∷ 0 ∷ 0 ∷ 0 ∷ []) 3 2
    ∷ case (0 ∷ 1 ∷ 0 ∷ 0x0F ∷ 0x42 ∷ 0x41 ∷ []) 3 2
    ∷ case (0 ∷ 1 ∷ 0 ∷ 0x0F ∷ 0x42 ∷ 0x40 ∷ 0 ∷ 9 ∷ []) 4 6
    ∷ case (0 ∷ 1 ∷ 0 ∷ 0 ∷ 0 ∷ 1 ∷ 0 ∷ 2 ∷ 0 ∷ 5 ∷ 0 ∷ 5 ∷ []) 5 10
    ∷ case (0 ∷ 1 ∷ 0 ∷ 0 ∷ 0 ∷ 1 ∷ 0 ∷ 1 ∷ 0 ∷ 5 ∷ 0 ∷ 33 ∷ []) 6 10
    ∷ case (0 ∷ 1 ∷ 0 ∷ 0 ∷ 0 ∷ 1 ∷ 0 ∷ 1 ∷ 0 ∷ 5 ∷ 0 ∷ 2 ∷ 0 ∷ 9 ∷ 0 ∷ 7 ∷ []) 7 14
    ∷ case (with_nodes (0 ∷ 17 ∷ [])) 8 18
    -- operator 7 and context 5: the operator comes first
    ∷ case (with_nodes (0 ∷ 1 ∷ 7 ∷ 5 ∷ 0 ∷ 0 ∷ 0 ∷ 1 ∷ 0 ∷ 0 ∷ [])) 9 20
    ∷ case (with_nodes (0 ∷ 1 ∷ 3 ∷ 5 ∷ 0 ∷ 0 ∷ 0 ∷ 1 ∷ 0xFF ∷ 0xFF ∷ [])) 10 20
    -- 32,768 at node 0; a kind that is not there; 32,768 plus its own place, at node 1
    ∷ case (with_nodes (0 ∷ 1 ∷ 3 ∷ 1 ∷ 0x80 ∷ 0 ∷ 0 ∷ 1 ∷ 0xFF ∷ 0xFF ∷ [])) 11 20
    ∷ case (with_nodes (0 ∷ 1 ∷ 3 ∷ 1 ∷ 0 ∷ 0 ∷ 0 ∷ 2 ∷ 0xFF ∷ 0xFF ∷ [])) 11 20
    ∷ case (with_nodes (0 ∷ 2 ∷ 3 ∷ 1 ∷ 0 ∷ 0 ∷ 0 ∷ 1 ∷ 0xFF ∷ 0xFF ∷ 3 ∷ 1 ∷ 0 ∷ 0 ∷ 0x80 ∷ 1 ∷ 0xFF ∷ 0xFF ∷ [])) 11 28
    -- middle and third input both wrong: the middle one comes first
    ∷ case (with_nodes (0 ∷ 1 ∷ 3 ∷ 1 ∷ 0 ∷ 0 ∷ 0 ∷ 2 ∷ 0 ∷ 0 ∷ [])) 11 20
    -- a third input of SEQ; of aperiodic 65,535, a later node, the node itself, a kind that is not there
    ∷ case (with_nodes (0 ∷ 1 ∷ 3 ∷ 1 ∷ 0 ∷ 0 ∷ 0 ∷ 1 ∷ 0 ∷ 0 ∷ [])) 41 20
    ∷ case (with_nodes (0 ∷ 1 ∷ 4 ∷ 1 ∷ 0 ∷ 0 ∷ 0 ∷ 1 ∷ 0xFF ∷ 0xFF ∷ [])) 41 20
    ∷ case (with_nodes (0 ∷ 2 ∷ 4 ∷ 1 ∷ 0 ∷ 0 ∷ 0 ∷ 1 ∷ 0x80 ∷ 1 ∷ 3 ∷ 1 ∷ 0 ∷ 0 ∷ 0 ∷ 1 ∷ 0xFF ∷ 0xFF ∷ [])) 41 20
    ∷ case (with_nodes (0 ∷ 2 ∷ 4 ∷ 1 ∷ 0 ∷ 0 ∷ 0 ∷ 1 ∷ 0 ∷ 0 ∷ 4 ∷ 1 ∷ 0 ∷ 0 ∷ 0 ∷ 1 ∷ 0x80 ∷ 1 ∷ [])) 41 28
    ∷ case (with_nodes (0 ∷ 1 ∷ 4 ∷ 1 ∷ 0 ∷ 0 ∷ 0 ∷ 1 ∷ 0 ∷ 2 ∷ [])) 41 20
    -- an entry that is not complete has no other fault
    ∷ case (with_nodes (0 ∷ 1 ∷ 7 ∷ 5 ∷ 0 ∷ 0 ∷ 0 ∷ 1 ∷ 0 ∷ [])) 1 20
    -- P with a byte more
    ∷ case (P ++ (0 ∷ [])) 12 28
    ∷ []

turned_back_lem : map (λ (c : Case). read_plan c.bytes) cases ≡ map (λ (c : Case). refused c.number c.place) cases
unfolding read_plan plan_at section entries piece value_of
turned_back_lem = refl
