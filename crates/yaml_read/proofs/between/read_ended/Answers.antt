use Rattle.std.proofs.Common.{rules, ◌≡◌, ◌==◌, true, false, List, [], ◌∷◌, ◌++◌, subst}
use Rattle.ytt_base.specs.Outcomes.{Gives}
use Rattle.yaml_spec.specs.Bytes.{first, hash, is_empty}
use Rattle.yaml_spec.specs.Held.{plain_lines}
use Rattle.yaml_spec.specs.Noted.{Comment, is_note}
use Rattle.yaml_noted.specs.View.{comments_of as comments_told}
use Rattle.yaml_read.specs.Between.{only_comments}
use Rattle.yaml_read.specs.Segments.{segment_of}
use Rattle.yaml_read.proofs.EndedBehind.{text_behind, ended_blank, ended_comment, ended_form, ended_note}
use Rattle.yaml_read.proofs.between.read_ended.Goals as goal

pub returns-then-is_empty : goal.returns-then-is_empty
returns-then-is_empty c =
    let s = segment_of c.args.segment in
    let e : is_empty (text_behind s) ≡ true = search rules in
    rw (ended_blank (comments_told c.args.before) s e) c.only_comments.ensures

pub returns-then-first-ne35 : goal.returns-then-first-ne35
returns-then-first-ne35 c =
    let s = segment_of c.args.segment in
    let e : is_empty (text_behind s) ≡ false = search rules in
    let f : (first (text_behind s) == hash) ≡ false = search rules in
    rw (c.refusal.ensures) (ended_form (comments_told c.args.before) s e f)

pub returns-then-is_note : goal.returns-then-is_note
returns-then-is_note c =
    let s = segment_of c.args.segment in
    let e : is_empty (text_behind s) ≡ false = search rules in
    let f : (first (text_behind s) == hash) ≡ true = search rules in
    let g : is_note (text_behind s) ≡ true = search rules in
    rw (c.refusal-then-is_note.ensures) (ended_note (comments_told c.args.before) s e f g)

pub returns : goal.returns
returns c =
    let s = segment_of c.args.segment in
    let e : is_empty (text_behind s) ≡ false = search rules in
    let f : (first (text_behind s) == hash) ≡ true = search rules in
    let g : is_note (text_behind s) ≡ false = search rules in
    let same : comments_told c.push_comment.new.comments ≡ comments_told c.args.before ++ record { line = s.marker.place.line; own_line = false; text = text_behind s } ∷ [] = search rules in
    rw (ended_comment (comments_told c.args.before) s e f g)
    (subst (λ (ks : List Comment). Gives comments_told c.only_comments-2.result (only_comments ks (plain_lines c.args.segment.lines.now))) same c.only_comments-2.ensures)
