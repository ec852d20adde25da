-- How what a call returned stands to what an act of the definitions answers.
use Rattle.std.specs.Prelude.{◌≡◌}
use Rattle.star_values.specs.Types.{Result, Ok, Err, Answer, did, refused, frozen, iterating, index_range, key_missing, ArenaStop}
use Rattle.star_values.specs.declared.object.ArenaStop.TheVariants as stop

-- Where it gave something, so did the act, and left this; where it refused, so did the act, and nothing is changed, as
-- nothing is where memory is wanting.
abbrev pub Answers : {S A B : Type 0} → (A → B) → Result A ArenaStop → (old new : S) → Answer S B → Type 0
Answers view (Ok x) old new answer = answer ≡ did (view x) new
Answers view (Err stop.Frozen) old new answer = (answer ≡ refused frozen) × (new ≡ old)
Answers view (Err stop.Iterating) old new answer = (answer ≡ refused iterating) × (new ≡ old)
Answers view (Err stop.IndexRange) old new answer = (answer ≡ refused index_range) × (new ≡ old)
Answers view (Err stop.KeyMissing) old new answer = (answer ≡ refused key_missing) × (new ≡ old)
Answers view (Err stop.Memory) old new answer = new ≡ old

-- it didn't answer that memory is wanting
abbrev pub TakesNone : {A : Type 0} → Result A ArenaStop → Type 0
TakesNone (Err stop.Memory) = ⊥
TakesNone _ = Unit {0}
