use Rattle.star_values.proofs.Names.{Some, None, ap, subst, sym, ◌∙◌, of_dict, Identified, pairs_of, contents_in, loops_in, object_in, pairs_in, OwnsContents}
use Rattle.star_values.proofs.Acts.{cut_act, cut_owned, found_owned}
use Rattle.star_values.proofs.object.Object.cut.Goals as goal

pub returns-in-None-clause-meaning : goal.returns-in-None-clause-meaning
returns-in-None-clause-meaning c = λ held known. (
  cut_act _ held c.args.key None c.in-Dict.pairs.entries c.cut_pair.new.pairs.entries (object_in held c.args.self.now) c.equal_values_are_one.ensures c.in_ok-unlocked.ensures.0 c.in_ok-unlocked.ensures.1 (ap (contents_in held) c.in-Dict.is) (subst (λ x. Identified held c.args.key (pairs_of x)) c.in-Dict.is known) c.in-None.ensures.value c.cut_pair.ensures.entries,
  ap (λ ps. record (object_in held c.args.self.now) { contents = of_dict (pairs_in held ps); loops = 0 }) c.in-None.ensures.unchanged ∙ ap (λ x. record (object_in held c.args.self.now) { contents = contents_in held x; loops = loops_in x }) (sym c.in-Dict.is),
)

pub returns-in-Some-clause-meaning : goal.returns-in-Some-clause-meaning
returns-in-Some-clause-meaning c = λ held known. cut_act _ held c.args.key (Some c.in-Some.value) c.in-Dict.pairs.entries c.cut_pair.new.pairs.entries (object_in held c.args.self.now) c.equal_values_are_one.ensures c.in_ok-unlocked.ensures.0 c.in_ok-unlocked.ensures.1 (ap (contents_in held) c.in-Dict.is) (subst (λ x. Identified held c.args.key (pairs_of x)) c.in-Dict.is known) c.in-Some.ensures.value c.cut_pair.ensures.entries

pub returns-in-Some-clause-owned : goal.returns-in-Some-clause-owned
returns-in-Some-clause-owned c = λ a owned. rw (c.cut_pair.ensures.entries) (cut_owned a _ c.in-Dict.pairs.entries (subst (OwnsContents a) c.in-Dict.is owned))

pub returns-in-Some-clause-given : goal.returns-in-Some-clause-given
returns-in-Some-clause-given c = λ a owned. found_owned a _ c.in-Dict.pairs.entries c.in-Some.value (subst (OwnsContents a) c.in-Dict.is owned) c.in-Some.ensures.value
