use Rattle.std.proofs.Common.{sym}
use Rattle.star_builtins.proofs.Asking.{many_names}
use Rattle.star_builtins.proofs.asked.key_alone.Goals as goal

pub returns-in-len2-up-clause-key : goal.returns-in-len2-up-clause-key
returns-in-len2-up-clause-key c = λ a. sym (many_names a.held c.args.named.now c.in-len2-up.len_at_least)
