use Rattle.text_words.specs.Tests.{run_test}
use Rattle.text_words.proofs.Cuts.{PartsBack, cut_back, cut_front, run_parts, run_parts_back}
use Rattle.text_words.proofs.runs.split_run.Goals as goal

pub split_at-requires : goal.split_at-requires
split_at-requires c = rw (c.front_len.ensures.len, c.as_bytes.ensures.value) (cut_front c.args.run c.args.text.now c.utf8.text)

pub split_at-requires-in-Back : goal.split_at-requires-in-Back
split_at-requires-in-Back c = cut_back c.args.run c.args.text.now c.back_len.result (rw c.as_bytes-in-Back.ensures.value at c.back_len.ensures.len) c.utf8.text

pub returns-in-Front-clause-part : goal.returns-in-Front-clause-part
returns-in-Front-clause-part c =
    rw (c.in-Front.is, c.split_at.ensures.front, c.front_len.ensures.len, c.as_bytes.ensures.value) (run_parts (run_test c.args.run) c.args.text.now).part

pub returns-in-Front-clause-rest : goal.returns-in-Front-clause-rest
returns-in-Front-clause-rest c =
    rw (c.in-Front.is, c.split_at.ensures.back, c.front_len.ensures.len, c.as_bytes.ensures.value) (run_parts (run_test c.args.run) c.args.text.now).rest

back : (c : goal.After-rest-in-Back-1) → PartsBack (run_test c.args.run) c.args.text.now c.back_len.result
back c =
    run_parts_back (run_test c.args.run) c.args.text.now c.back_len.result (rw c.as_bytes-in-Back.ensures.value at c.back_len.ensures.len) (rw c.as_bytes-in-Back.ensures.value at c.back_len.ensures.within)

pub returns-in-Back-clause-part : goal.returns-in-Back-clause-part
returns-in-Back-clause-part c = rw (c.in-Back.is, c.split_at-in-Back.ensures.back) (back c).part

pub returns-in-Back-clause-rest : goal.returns-in-Back-clause-rest
returns-in-Back-clause-rest c = rw (c.in-Back.is, c.split_at-in-Back.ensures.front) (back c).rest
