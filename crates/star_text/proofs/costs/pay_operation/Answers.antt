use Rattle.std.proofs.Common.{◌+◌, ◌<◌, ◌^◌, ap, rules, sym, subst, ◌∙◌}
use Rattle.star_steps.proofs.Names.{OwnsAll, seen, state_in, value_of, values_of}
use Rattle.text_spec.specs.Answers.{all_bytes, all_members, bytes_in}
use Rattle.value_spec.specs.Members.{count_in}
use Rattle.star_text.proofs.Paying.{begun, counted, paid_all, past_all}
use Rattle.star_text.proofs.costs.pay_operation.Goals as goal

pub loop-first-preserved : goal.loop-first-preserved
loop-first-preserved c =
    let a = seen c.args.arena.now in
    let v = value_of a c.in-Some.first.now in
    let more = values_of a c.in-Some.more.now in
    let rest = c.in-Some.ensures.cases.0 in
    record {
      bytes = λ b is.
          let had = c.loop-first.invariant.bytes b is in
          let k = c.byte_count-in-Some.result in
          (had.0 + k, c.and-all_bytes-in-Some.ensures had.0 had.1, counted had.0 k (bytes_in v) (all_bytes more) _ c.byte_count-in-Some.ensures (ap (λ vs. had.0 + all_bytes (values_of a vs)) (sym rest) ∙ had.2));
      members = λ m is.
          let had = c.loop-first.invariant.members m is in
          let k = c.member_count-in-Some.result in
          (had.0 + k, c.and-all_members-in-Some.ensures had.0 had.1, counted had.0 k (count_in a.store v) (all_members a.store more) _ c.member_count-in-Some.ensures (ap (λ vs. had.0 + all_members a.store (values_of a vs)) (sym rest) ∙ had.2));
      owns = (subst (OwnsAll a) rest c.loop-first.invariant.owns).1;
    }

pub loop-first-init : goal.loop-first-init
loop-first-init c =
    let a = seen c.args.arena.now in
    let v = value_of a c.args.value in
    let others = values_of a c.args.others.now in
    record {
      bytes = λ b is. (b + c.byte_count.result, c.and-all_bytes.ensures b is, begun b c.byte_count.result (all_bytes others) (bytes_in v) c.byte_count.ensures);
      members = λ m is. (m + c.member_count.result, c.and-all_members.ensures m is, begun m c.member_count.result (all_members a.store others) (count_in a.store v) c.member_count.ensures);
      owns = c.requires.others;
    }

pub returns-in-None : goal.returns-in-None
returns-in-None c = λ b m is_bytes is_members.
    let a = seen c.args.arena.now in
    let bytes = c.loop-first.invariant.bytes b is_bytes in
    let members = c.loop-first.invariant.members m is_members in
    let few : c.args.steps.now < 2 ^ 64 = search rules in
    rw c.refusal.ensures (past_all c.args.place (value_of a c.args.value) (values_of a c.args.others.now) b m bytes.0 members.0 a c.args.steps.now c.loop-first.rest.now c.in_default.ensures.cases bytes.2 members.2 (c.in-None.ensures bytes.0 members.0 bytes.1 members.1) few)

pub returns-in-Some-cost : goal.returns-in-Some-cost
returns-in-Some-cost c = λ b m is_bytes is_members.
    let a = seen c.args.arena.now in
    let bytes = c.loop-first.invariant.bytes b is_bytes in
    let members = c.loop-first.invariant.members m is_members in
    paid_all c.args.place (value_of a c.args.value) (values_of a c.args.others.now) b m bytes.0 members.0 a c.args.steps.now c.loop-first.rest.now c.in_default.ensures.cases bytes.2 members.2 c.in-Some-cost.all c.pay.result (state_in a c.pay.new.steps)
    (c.in-Some-cost.ensures bytes.0 members.0 bytes.1 members.1) c.pay.ensures
