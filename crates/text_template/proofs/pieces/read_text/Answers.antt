use Rattle.std.proofs.Common.{codes, ◌∙◌, rules}
use Rattle.std.proofs.lemmas.Result.{err_from_is_err_and}
use Rattle.star_tree.specs.Listed.{pieces_of}
use Rattle.text_template_spec.specs.TextPieces.{pieces_in}
use Rattle.text_template.proofs.Cutting.{splits}
use Rattle.text_template.proofs.Putting.{fault_behind, none_before, up_to_end, up_to_mark}
use Rattle.text_template.proofs.pieces.read_text.Goals as goal

pub loop-written-init : goal.loop-written-init
loop-written-init c = (c.utf8.text, λ r reads. none_before r c.args.at c.args.text.now c.new-pieces.result c.new-pieces.ensures)

pub loop-written-preserved : goal.loop-written-preserved
loop-written-preserved c =
    let at = c.args.at in
    let now = c.loop-written in
    let first = rw c.in-Some.is at (splits (codes "(@") now.rest.now _ c.split_once.ensures.cases) in (
      search rules,
      λ r reads.
          up_to_mark r at c.args.text.now now.rest.now now.pieces c.put_text.new.pieces (now.invariant.1 r reads) c.in-Some.written.now c.in-Some.marked.now first (c.in_ok-put_text.ensures at.file)
          ∙ c.in_ok-rest.ensures.puts r reads,
    )

pub returns-in_err-rest : goal.returns-in_err-rest
returns-in_err-rest c =
    let at = c.args.at in
    let now = c.loop-written in
    let text = c.args.text.now in
    let first = rw c.in-Some.is at (splits (codes "(@") now.rest.now _ c.split_once.ensures.cases) in
    let p = err_from_is_err_and c.from_residual-in_err-rest.result c.from_residual-in_err-rest.ensures.1 in
    record {
      pieces = λ r reads.
          rw (p.1, p.2) (fault_behind (pieces_of at.file) r reads at c.in-Some.marked.now c.put_text.new.pieces c.put_code.new.pieces c.in_err-rest.field-0.0 (pieces_in r at text)
          (up_to_mark r at text now.rest.now now.pieces c.put_text.new.pieces (now.invariant.1 r reads) c.in-Some.written.now c.in-Some.marked.now first (c.in_ok-put_text.ensures at.file)) c.in_err-rest.ensures.puts);
    }

pub returns : goal.returns
returns c =
    let at = c.args.at in
    let now = c.loop-written in
    let none = rw c.in_default.is at (splits (codes "(@") now.rest.now _ c.split_once.ensures.cases) in
    record { pieces = λ r reads. up_to_end r at c.args.text.now now.rest.now now.pieces c.put_text-2.new.pieces (now.invariant.1 r reads) none (c.in_ok-put_text-2.ensures at.file) }
