use Rattle.std.proofs.Common.{◌++◌, ◌∷◌, [], ap, append-nil, append_assoc, subst, sym, ◌∙◌}
use Rattle.std.proofs.lemmas.List.{nil_from_length}
use Rattle.star_steps.proofs.Names.{pair_in, pairs_in, seen, value_of}
use Rattle.mod_basic.specs.Walks.{OwnsPairs, pairs_of}
use Rattle.mod_basic.proofs.Joining.{put_behind}
use Rattle.mod_basic.proofs.fields.distinct.Goals as goal

pub loop-pair-preserved : goal.loop-pair-preserved
loop-pair-preserved c =
    let a = seen c.args.arena.now in
    let so_far = c.loop-pair.invariant in
    let q = c.in-Some.pair.now in
    let ps = pairs_in a.held c.loop-pair.all.entries in
    let more = pairs_of a c.in-Some.more.now in
    let own = subst (OwnsPairs a) c.in-Some.ensures.cases.0 so_far.rest in
    record {
      pairs =
          ap (λ qs. qs ++ more) (c.in_ok-put_pair.ensures.pairs ∙ put_behind (value_of a q.0) (value_of a q.1) ps (sym c.if-has_key.false ∙ c.has_key.ensures))
          ∙ append_assoc ps (pair_in a.held q ∷ []) more
          ∙ ap (λ qs. ps ++ pairs_of a qs) (sym c.in-Some.ensures.cases.0)
          ∙ so_far.pairs;
      owns = c.in_ok-put_pair.ensures.owned;
      rest = own.1;
    }

pub returns-clause-pairs : goal.returns-clause-pairs
returns-clause-pairs c =
    let a = seen c.args.arena.now in
    let ps = pairs_in a.held c.loop-pair.all.entries in
    sym (append-nil ps) ∙ ap (λ qs. ps ++ pairs_of a qs) (sym (nil_from_length c.loop-pair.rest.now c.in_default.ensures.cases)) ∙ c.loop-pair.invariant.pairs
