use Rattle.star_values.proofs.Names.{Result, Ok, Err, IfOk, sym, subst, OwnsContents}
use Rattle.star_values.proofs.object.Object.begin_loop.Goals as goal

pub returns-in-Ok-clause-owned : goal.returns-in-Ok-clause-owned
returns-in-Ok-clause-owned c = λ a owned. c.in-Ok.ensures.owned a (subst (OwnsContents a) (sym c.replace.ensures.value) owned)

-- what holds of what was given holds of it further
further_held : {A B : Type 0} (P Q : A → Type 0) (r : Result A B) → ((x : A) → P x → Q x) → IfOk r P → IfOk r Q
further_held P Q (Ok x) f h = f x h
further_held P Q (Err e) f h = tt

pub returns-in-Ok-clause-given : goal.returns-in-Ok-clause-given
returns-in-Ok-clause-given c = further_held _ _ c.share-shared.result (λ l h a owned. h a (returns-in-Ok-clause-owned c a owned)) c.share-shared.ensures.owned
