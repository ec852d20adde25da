use Rattle.std.proofs.Common.{◌∙◌, sym}
use Rattle.star_eval.specs.Meets.{arena_of}
use Rattle.star_values.specs.Objects.{seen}
use Rattle.file_load.proofs.Replying.{others_refuse, try_replies}
use Rattle.file_load.proofs.host.resumed.Goals as goal

pub returns-then-is_try : goal.returns-then-is_try
returns-then-is_try c = λ tag.
    let n = c.args.session.now.work.steps in
    try_replies (arena_of c.args.session.now) c.args.native tag c.args.got c.args.at n c.try_resumed.result (seen c.try_resumed.new.arena) n (sym c.if-is_try.true ∙ c.is_try.ensures) (c.try_resumed.ensures n)

pub returns-else-is_try : goal.returns-else-is_try
returns-else-is_try c = λ tag.
    others_refuse (arena_of c.args.session.now) c.args.native tag c.args.got c.args.at c.args.session.now.work.steps c.refusal.result (sym c.if-is_try.false ∙ c.is_try.ensures) c.refusal.ensures
