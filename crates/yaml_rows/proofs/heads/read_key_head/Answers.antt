use Rattle.std.proofs.Common.{sym}
use Rattle.std.proofs.lemmas.List.{append-nil, map_push}
use Rattle.yaml_rows.specs.View.{mark_of}
use Rattle.yaml_rows.proofs.DashHeads.{key_head-some, key_head-none}
use Rattle.yaml_rows.proofs.heads.read_key_head.Goals as goal

pub returns-in_ok-push-in-Some : goal.returns-in_ok-push-in-Some
returns-in_ok-push-in-Some c =
    let found = rw c.in-Some.is at (sym c.in_ok-mark.ensures) in
    rw (key_head-some c.args.column c.args.has_tab c.args.text.now (mark_of c.in-Some.mark) c.in-Some.behind.now found, c.skip_white.ensures, c.in_ok-push-in-Some.ensures.ok, map_push)

pub returns-in-None : goal.returns-in-None
returns-in-None c =
    let found = rw c.in-None.is at (sym c.in_ok-mark.ensures) in
    rw (key_head-none c.args.column c.args.has_tab c.args.text.now found, append-nil)
