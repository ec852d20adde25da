use Rattle.ytt_spec.specs.Words.{Compile, compile}
use Rattle.ytt_words.specs.declared.words.CompileRequest.{CompileRequest}
use Rattle.ytt_main.specs.Seen.{seen_files}
use Rattle.ytt_main.proofs.Answered.{listing_caused, listing_found, listing_stop, stop_found}
use Rattle.ytt_main.proofs.answer.answer_compile.Goals as goal

abbrev asked : CompileRequest → Compile
asked r = record { path = r.path; ignore_unknown = r.ignore_unknown }

pub returns-in-Ok-clause-found : goal.returns-in-Ok-clause-found
returns-in-Ok-clause-found g c = λ words q.
    listing_found (asked c.args.request.now) words (seen_files g.F.Files.tree g.F.Files.faults c.args.files.now c.compile_file.new.files) c.in-Ok.text q c.in-Ok.ensures.cause c.in-Ok.ensures.listed

pub returns-in-Err-clause-found : goal.returns-in-Err-clause-found
returns-in-Err-clause-found g c = λ words q.
    let of = asked c.args.request.now in
    let files = seen_files g.F.Files.tree g.F.Files.faults c.args.files.now c.compile_file.new.files in
    stop_found words (compile of) files c.in-Err.stop c.answer_stop.result q (listing_stop of files.tree c.in-Err.stop c.in-Err.ensures.listed) (listing_caused of files c.in-Err.stop c.in-Err.ensures.cause) c.answer_stop.ensures
