use Rattle.star_steps.proofs.Names.{◌≡◌, true, sym, subst, ◌∙◌, rules, did, list_at, list_extend, seen, value_of, values_of}
use Rattle.star_ops.proofs.Changing.{both_counted, extend_done, extend_stopped, members_there}
use Rattle.star_ops.proofs.in_place.extend.Goals as goal

pub returns-in_err-pay_both : goal.returns-in_err-pay_both
returns-in_err-pay_both c =
    let a = seen c.args.arena.now in
    let many : c.has_members.result ≡ true = search rules in
    let ws = members_there a c.args.more (sym c.has_members.ensures ∙ many) in
    extend_stopped c.args.place c.args.list.at (value_of a c.args.more) a c.args.steps.now c.pay_both.new.steps _ ws.0 c.in_err-pay_both.field-0.0 c.from_residual.result c.in_default.ensures.meaning ws.1
    (both_counted a c.args.more (list_at c.args.list.at a.store) ws.0 ws.0 c.list-first.result.now c.member_count.result ws.1 ws.2 ws.1 c.list-first.ensures.members c.member_count.ensures) c.in_err-pay_both.ensures (search rules)

pub returns-in-Ok : goal.returns-in-Ok
returns-in-Ok c =
    let a = seen c.args.arena.now in
    let many : c.has_members.result ≡ true = search rules in
    let ws = members_there a c.args.more (sym c.has_members.ensures ∙ many) in
    let ms = values_of a c.in_ok-members.members in
    let act = subst (λ vs. list_extend c.args.list.at (values_of a vs) a.store ≡ did tt (seen c.list_extend.new.self).store) c.as_slice.ensures c.in-Ok.ensures.meaning in
    extend_done c.args.place c.args.list (value_of a c.args.more) a (seen c.list_extend.new.self) c.args.steps.now c.pay_both.new.steps _ ms c.in_default.ensures.meaning c.in_ok-members.ensures.members
    (both_counted a c.args.more (list_at c.args.list.at a.store) ws.0 ms c.list-first.result.now c.member_count.result ws.1 ws.2 c.in_ok-members.ensures.members c.list-first.ensures.members c.member_count.ensures)
    c.in_ok-pay_both.ensures act c.in-Ok.ensures.grows c.requires.list
