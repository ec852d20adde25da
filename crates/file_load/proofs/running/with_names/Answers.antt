use Rattle.std.proofs.Common.{◌≡◌, Err, rules, subst, sym}
use Rattle.file_load.proofs.Turning.{names_refused, names_taken}
use Rattle.file_load.specs.Turns.{TakesNames}
use Rattle.file_load.proofs.running.with_names.Goals as goal

pub returns-in_err-names_loaded : goal.returns-in_err-names_loaded
returns-in_err-names_loaded c =
    let stopped : c.from_residual.result ≡ Err c.in_err-names_loaded.field-0.0 = search rules in
    subst (TakesNames c.args.place c.args.names.now c.args.globals.now c.args.run) (sym stopped)
    (names_refused c.args.place c.args.names.now c.args.globals.now c.args.run c.names_loaded.new.got c.in_err-names_loaded.field-0.0 c.in_err-names_loaded.ensures)

pub returns : goal.returns
returns c = names_taken c.args.place c.args.names.now c.args.globals.now c.args.run c.names_loaded.new.got c.in_ok-names_loaded.ensures
