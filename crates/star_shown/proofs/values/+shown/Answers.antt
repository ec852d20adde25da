use Rattle.star_steps.proofs.Names.{◌≡◌, ◌∷◌, ◌∙◌, rules, seen, state_in, string_bytes}
use Rattle.star_shown.specs.Pushes.{member_pushed, pushes}
use Rattle.star_shown.proofs.Collections.{dict_below, list_below, range_below, struct_below, tuple_below}
use Rattle.star_shown.proofs.Pushing.{more_next}
use Rattle.star_shown.proofs.Whole.{shown_as}
use Rattle.star_shown.proofs.values.+shown.Goals as goal

pub push_members-push_member-requires : goal.push_members-push_member-requires
push_members-push_member-requires t c =
    let owned = c.in-Some.ensures.owned (seen c.args.arena.now) c.requires in
    search (rules, owned)

pub push_members-push_more-requires : goal.push_members-push_more-requires
push_members-push_more-requires t c =
    let owned = c.in-Some.ensures.owned (seen c.args.arena.now) c.requires in
    search (rules, owned)

pub push_more-push_member-requires : goal.push_more-push_member-requires
push_more-push_member-requires t c =
    let owned = c.in-Some.ensures.owned (seen c.args.arena.now) c.loop-member.invariant.owns in
    search (rules, owned)

pub push_more-loop-member-preserved : goal.push_more-loop-member-preserved
push_more-loop-member-preserved t c =
    let a = seen c.args.arena.now in
    let n = c.args.at.levels in
    let p = c.args.at.place in
    let owned = c.in-Some.ensures.owned a c.loop-member.invariant.owns in
    let first : pushes n p a.held c.loop-member.left ≡ member_pushed n p a.held c.in-Some.member ∷ pushes n p a.held c.in-Some.rest = search (rules, c.in-Some.ensures.first n p a.held) in
    record {
      owns = search (rules, owned);
      same = c.loop-member.invariant.same
          ∙ more_next _ (pushes n p a.held c.in-Some.rest) (member_pushed n p a.held c.in-Some.member) _ _ _ _ _ first c.in_ok-append.ensures c.in_ok-push_member.ensures;
    }

pub push_value-returns-in-Range : goal.push_value-returns-in-Range
push_value-returns-in-Range t c =
    let a = seen c.args.arena.now in
    let b = c.bounds.result in
    shown_as a c.args.at.levels c.args.at.place _ _ (string_bytes c.args.shown.now) _ c.push_range.result _ (state_in a c.args.steps.now) _ c.in-Range.is
    (range_below c.args.at.levels c.args.at.place _ b.0 b.1 b.2 (string_bytes c.args.shown.now) (state_in a c.args.steps.now) c.bounds.ensures)
    c.push_range.ensures

pub push_value-returns-in-Tuple : goal.push_value-returns-in-Tuple
push_value-returns-in-Tuple t c =
    let a = seen c.args.arena.now in
    shown_as a c.args.at.levels c.args.at.place _ _ (string_bytes c.args.shown.now) _ c.push_within.result _ (state_in a c.args.steps.now) _ c.in-Tuple.is
    (tuple_below c.args.at.levels c.args.at.place _ _ _ (string_bytes c.args.shown.now) (state_in a c.args.steps.now) c.tuple_members-members.ensures.members (c.closed-end.ensures a))
    c.push_within.ensures

pub push_value-returns-in-List : goal.push_value-returns-in-List
push_value-returns-in-List t c =
    let a = seen c.args.arena.now in
    shown_as a c.args.at.levels c.args.at.place _ _ (string_bytes c.args.shown.now) _ c.push_within-in-List.result _ (state_in a c.args.steps.now) _ c.in-List.is
    (list_below c.args.at.levels c.args.at.place c.in-List.list.at _ (string_bytes c.args.shown.now) (state_in a c.args.steps.now) c.list.ensures.members)
    c.push_within-in-List.ensures

pub push_value-returns-in-Dict : goal.push_value-returns-in-Dict
push_value-returns-in-Dict t c =
    let a = seen c.args.arena.now in
    shown_as a c.args.at.levels c.args.at.place _ _ (string_bytes c.args.shown.now) _ c.push_within-in-Dict.result _ (state_in a c.args.steps.now) _ c.in-Dict.is
    (dict_below c.args.at.levels c.args.at.place c.in-Dict.dict.at _ (string_bytes c.args.shown.now) (state_in a c.args.steps.now) c.pairs.ensures.pairs)
    c.push_within-in-Dict.ensures

pub push_value-returns-in-Struct : goal.push_value-returns-in-Struct
push_value-returns-in-Struct t c =
    let a = seen c.args.arena.now in
    shown_as a c.args.at.levels c.args.at.place _ _ (string_bytes c.args.shown.now) _ c.push_within-in-Struct.result _ (state_in a c.args.steps.now) _ c.in-Struct.is
    (struct_below c.args.at.levels c.args.at.place _ _ (string_bytes c.args.shown.now) (state_in a c.args.steps.now) c.fields.ensures.fields)
    c.push_within-in-Struct.ensures
