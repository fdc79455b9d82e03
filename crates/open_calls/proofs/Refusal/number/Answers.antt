-- Refusal by refusal.
use Rattle.std.proofs.Common.{◌≡◌, ◌+◌, refl}
use denote.Enum.Declared.{tag_of}
use Rattle.open_calls.specs.declared.Refusal.{Refusal}
use Rattle.open_calls.specs.declared.Refusal.TheVariants.{BadRatio, BadLength, BadEntry, NotConcurrent}
use Rattle.open_calls.specs.contracts.Refusal.{the_type}
use Rattle.open_calls.specs.Answers.{number_of}
use Rattle.open_calls.proofs.Refusal.number.Goals as goal

numbered : (why : Refusal) → tag_of the_type why + 34 ≡ number_of why
unfolding number_of
numbered BadRatio = refl
numbered BadLength = refl
numbered BadEntry = refl
numbered NotConcurrent = refl

pub returns : goal.returns
returns c = numbered c.args.self
