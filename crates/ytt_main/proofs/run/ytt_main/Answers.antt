use Rattle.std.proofs.Common.{map, string_bytes}
use Rattle.ytt_main.proofs.Told as law
use Rattle.ytt_main.specs.Seen.{seen_files, seen_sink}
use Rattle.ytt_main.proofs.run.ytt_main.Goals as goal

pub returns : goal.returns
returns g c =
    let words = map string_bytes c.args.words.now in
    let files = seen_files g.F.Files.tree g.F.Files.faults c.args.files.now c.answer_words-answer.new.files in
    let out = seen_sink g.O.Sink.held g.O.Sink.faults c.args.out.now c.write_answer.new.out in
    let err = seen_sink g.E.Sink.held g.E.Sink.faults c.args.err.now c.write_answer.new.err in
    let a = c.answer_words-answer.result in
    let s = c.write_answer.result in
    let found = c.answer_words-answer.ensures.found in
    let written = c.write_answer.ensures in
    record {
      headline = law.headline words files out err a s found c.answer_words-answer.ensures.told written;
      ending = law.ending words files out err a s found written;
      out_unchanged = λ n m. (law.out_untouched words files out err a s written n m).same_bytes;
      out_count_unchanged = λ n m. (law.out_untouched words files out err a s written n m).same_count;
      files_whole = law.files_whole words files out err a s found written;
      out_whole = law.out_whole words files out err a s written;
    }
