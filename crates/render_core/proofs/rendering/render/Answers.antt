use Rattle.std.proofs.Common.{List, ◌∙◌, length, ap, ℕ}
use Rattle.ytt_spec.specs.Words.{Render}
use Rattle.ytt_words.specs.Asks.{budget_of}
use Rattle.ytt_words.specs.declared.words.Request.{Request}
use Rattle.render_core.proofs.Held.{many_names}
use Rattle.render_core.proofs.Read.{stop_caused, stop_told, units_are_written, units_caused, units_told}
use Rattle.render_core.proofs.rendering.render.Goals as goal

abbrev asked : Request → Render
asked r = record { paths = r.paths; budget = budget_of r.budget; ignore_unknown = r.ignore_unknown }

pub render_units-requires-clause-names : goal.render_units-requires-clause-names
render_units-requires-clause-names g c =
    let read = c.in-Ok.ensures.read in
    ap (λ (xs : List (List ℕ)). length xs) read.names_are ∙ many_names 1 read.units c.in-Ok.units.files c.in-Ok.units.contents read.are_held

pub returns-in-Ok-clause-told : goal.returns-in-Ok-clause-told
returns-in-Ok-clause-told g c =
    let read = c.in-Ok.ensures.read in
    units_told (asked c.args.request.now) read.units c.in-Ok.units.names _ read.found read.names_are c.render_units.result (c.render_units.ensures read.units read.are_held read.names_are)

pub returns-in-Ok-clause-held : goal.returns-in-Ok-clause-held
returns-in-Ok-clause-held g c =
    let read = c.in-Ok.ensures.read in
    let reader = c.a_code_reader_exists.ensures in
    (units_are_written (asked c.args.request.now) read.units c.in-Ok.units.names reader.0 reader.1 read.read c.render_units.result (c.render_units.ensures read.units read.are_held read.names_are)).0

pub returns-in-Ok-clause-writable : goal.returns-in-Ok-clause-writable
returns-in-Ok-clause-writable g c =
    let read = c.in-Ok.ensures.read in
    let reader = c.a_code_reader_exists.ensures in
    (units_are_written (asked c.args.request.now) read.units c.in-Ok.units.names reader.0 reader.1 read.read c.render_units.result (c.render_units.ensures read.units read.are_held read.names_are)).1

pub returns-in-Ok-clause-cause : goal.returns-in-Ok-clause-cause
returns-in-Ok-clause-cause g c =
    let read = c.in-Ok.ensures.read in
    units_caused (asked c.args.request.now) read.units c.in-Ok.units.names _ _ _ c.render_units.result c.in-Ok.ensures.cause (c.render_units.ensures read.units read.are_held read.names_are)

pub returns-in-Err-clause-told : goal.returns-in-Err-clause-told
returns-in-Err-clause-told g c = stop_told (asked c.args.request.now) _ c.in-Err.stop c.in-Err.ensures.read

pub returns-in-Err-clause-cause : goal.returns-in-Err-clause-cause
returns-in-Err-clause-cause g c = stop_caused _ _ _ _ _ c.in-Err.stop c.in-Err.ensures.cause
