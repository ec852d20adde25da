use Rattle.ytt_spec.specs.Words.{Render, render}
use Rattle.ytt_words.specs.Asks.{budget_of}
use Rattle.ytt_words.specs.declared.words.Request.{Request}
use Rattle.ytt_main.specs.Seen.{seen_files}
use Rattle.ytt_main.proofs.Answered.{render_caused, render_stop, stop_found}
use Rattle.ytt_main.proofs.answer.answer_render.Goals as goal

abbrev asked : Request → Render
asked r = record { paths = r.paths; budget = budget_of r.budget; ignore_unknown = r.ignore_unknown }

pub returns-in-Err-clause-found : goal.returns-in-Err-clause-found
returns-in-Err-clause-found g c = λ words q.
    let of = asked c.args.request.now in
    let files = seen_files g.F.Files.tree g.F.Files.faults c.args.files.now c.render.new.files in
    stop_found words (render of) files c.in-Err.stop c.answer_stop.result q (render_stop of files.tree c.in-Err.stop c.in-Err.ensures.told) (render_caused of files.tree files c.in-Err.stop c.in-Err.ensures.cause) c.answer_stop.ensures
