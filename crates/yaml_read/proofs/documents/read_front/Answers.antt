use Rattle.std.proofs.Common.{rules, ◌≡◌, ◌==◌, List, [], ◌++◌, Some, None, Ok, Err, true, false, sym, ◌∙◌, ap}
use Rattle.std.proofs.lemmas.Result.{err_from_is_err_and}
use Rattle.ytt_base.specs.Outcomes.{Outcome, ◌>>=◌}
use Rattle.yaml_pass.specs.Machine.{pass, wanting}
use Rattle.yaml_noted.specs.declared.noted.RawComment.{RawComment}
use Rattle.yaml_noted.specs.View.{comments_of}
use Rattle.yaml_spec.specs.Bytes.{first, percent}
use Rattle.yaml_spec.specs.Held.{plain_line, plain_lines}
use Rattle.yaml_spec.specs.Read.{comments_of as comments_in, first_content}
use Rattle.ytt_laws.proofs.Chains.{gives_same, gives_stop}
use Rattle.yaml_read.specs.Documents.{Noted, Part, front_part}
use Rattle.yaml_read.specs.View.{part_of, passed_of}
use Rattle.yaml_read.proofs.Parts.{front_content, front_document, front_none, front_out, no_document}
use Rattle.yaml_read.proofs.documents.read_front.Goals as goal

-- a document and the comments behind it
abbrev part_with : Noted → List RawComment → Outcome Part
part_with x after = Ok (Some x, comments_of after)

pub returns-in_default : goal.returns-in_default
returns-in_default c =
    let none : first_content (plain_lines c.args.front.now) ≡ None = search rules in
    front_none (plain_lines c.args.front.now) c.args.stop none
    ∙ sym (ap no_document (c.in_ok-push_comments.ensures ∙ ap (λ (ks : List RawComment). comments_of ks ++ comments_in (plain_lines c.args.front.now)) c.new-none.ensures))

pub returns-then-first-eq37 : goal.returns-then-first-eq37
returns-then-first-eq37 c =
    let l = plain_line c.in-Some.line.now in
    let some : first_content (plain_lines c.args.front.now) ≡ Some l = search rules in
    let out : (first l.text == percent) ≡ true = search rules in
    rw c.refusal.ensures (front_out (plain_lines c.args.front.now) c.args.stop l some out)

pub returns-in_err-found : goal.returns-in_err-found
returns-in_err-found c =
    let l = plain_line c.in-Some.line.now in
    let front = plain_lines c.args.front.now in
    let some : first_content front ≡ Some l = search rules in
    let other : (first l.text == percent) ≡ false = search rules in
    let p = err_from_is_err_and c.from_residual-in_err-found.result c.from_residual-in_err-found.ensures.1 in
    let stopped = gives_stop passed_of part_of (front_document l) c.in_err-found.field-0.0 (pass c.args.stop true 0 0 [] [] wanting front) (rw c.new-none.ensures at c.in_err-found.ensures) in
    rw (p.1, p.2) (gives_same part_of (Err c.in_err-found.field-0.0) (front_part front c.args.stop) _ (front_content front c.args.stop l some other) stopped)

pub returns : goal.returns
returns c =
    let l = plain_line c.in-Some.line.now in
    let front = plain_lines c.args.front.now in
    let some : first_content front ≡ Some l = search rules in
    let other : (first l.text == percent) ≡ false = search rules in
    front_content front c.args.stop l some other ∙ ap (λ o. o >>= front_document l) (rw c.new-none.ensures at c.in_ok-found.ensures)
    ∙ sym (ap (λ (x : Noted). part_with x c.in_ok-found.field-0.after) (rw c.new-before.ensures at c.document-item.ensures))
