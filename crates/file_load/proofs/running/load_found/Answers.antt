use Rattle.std.proofs.Common.{Err, List, subst, sym}
use Rattle.star_values.specs.declared.value.NamedValue.{NamedValue}
use Rattle.file_load.proofs.Turning.{given_taken, missing_taken, module_taken, under_way_taken}
use Rattle.file_load.specs.Turns.{TakesFound, TakesNames}
use Rattle.file_load.specs.declared.looking.Found.{Found}
use Rattle.file_load.proofs.running.load_found.Goals as goal

pub returns-in-Missing : goal.returns-in-Missing
returns-in-Missing c =
    let x = c.fault_with.result in
    subst (λ (f : Found). TakesFound f c.args.load c.args.run (Err x) c.args.waiting.now c.args.waiting.now) (sym c.in-Missing.is) (missing_taken c.args.load c.args.run c.args.waiting.now x c.fault_with.ensures)

pub returns-in-UnderWay : goal.returns-in-UnderWay
returns-in-UnderWay c =
    let x = c.fault_with-in-UnderWay.result in
    subst (λ (f : Found). TakesFound f c.args.load c.args.run (Err x) c.args.waiting.now c.args.waiting.now) (sym c.in-UnderWay.is) (under_way_taken c.args.load c.args.run c.args.waiting.now x c.fault_with-in-UnderWay.ensures)

pub returns-in-Given : goal.returns-in-Given
returns-in-Given c =
    let result = c.with_names.result in
    let names = subst (λ (xs : List NamedValue). TakesNames c.args.load.place c.args.load.names.now xs c.args.run result) c.as_slice.ensures c.with_names.ensures in
    subst (λ (f : Found). TakesFound f c.args.load c.args.run result c.args.waiting.now c.args.waiting.now) (sym c.in-Given.is) (given_taken c.args.load c.args.run c.args.waiting.now c.in-Given.globals result names)

pub returns-in-Module : goal.returns-in-Module
returns-in-Module c =
    let result = c.with_names-in-Module.result in
    let names = subst (λ (xs : List NamedValue). TakesNames c.args.load.place c.args.load.names.now xs c.args.run result) c.as_slice-in-Module.ensures c.with_names-in-Module.ensures in
    subst (λ (f : Found). TakesFound f c.args.load c.args.run result c.args.waiting.now c.args.waiting.now) (sym c.in-Module.is) (module_taken c.args.load c.args.run c.args.waiting.now c.in-Module.globals result names)

pub returns : goal.returns
returns c = subst (λ (f : Found). TakesFound f c.args.load c.args.run c.begin.result c.begin.new.waiting c.args.waiting.now) (sym c.in-NotBegun.is) c.begin.ensures
