use Rattle.std.proofs.Common.{◌≡◌, ℕ, not, arith, sym, ◌∙◌, ap}
use Rattle.std.specs.List.{prefix_len}
use Rattle.yaml_noted.specs.View.{comments_of}
use Rattle.yaml_rows.specs.View.{row_of}
use Rattle.yaml_read.specs.Steps.{begins, last_left, root_in}
use Rattle.yaml_entries.specs.View.{frames_of, hole_of, opened_of}
use Rattle.ytt_laws.proofs.Chains.{gives_same}
use Rattle.yaml_read.proofs.Turns.{some-at, step-begins, step-root}
use Rattle.yaml_read.proofs.stepping.step.Goals as goal

pub returns-then-at-len-clause-content : goal.returns-then-at-len-clause-content
returns-then-at-len-clause-content c =
    let r = row_of (comments_of c.args.before) c.args.row.now in
    let fs = c.args.frames in
    let n : c.blocks_around-at.result ≡ prefix_len (λ f. not (begins r f)) fs = rw c.as_slice.ensures at c.blocks_around-at.ensures in
    let f = some-at fs c.blocks_around-at.result (omega arith) in
    gives_same opened_of c.step_at.result _ _ (step-begins (hole_of c.args.hole) r fs c.blocks_around-at.result 100 f.0 n f.1) (c.step_at.ensures.content f.0 f.1)

pub returns-clause-content : goal.returns-clause-content
returns-clause-content c =
    let r = row_of (comments_of c.args.before) c.args.row.now in
    let fs = c.args.frames in
    let n : c.blocks_around-at.result ≡ prefix_len (λ f. not (begins r f)) fs = rw c.as_slice.ensures at c.blocks_around-at.ensures in
    let m : c.innermost-left.result ≡ last_left 100 (frames_of fs) = rw c.as_slice-2.ensures at c.innermost-left.ensures.left in
    gives_same opened_of c.step_root.result _ _
    (step-root (hole_of c.args.hole) r fs 100 (omega arith) ∙ ap (λ (l : ℕ). root_in (frames_of fs) l (hole_of c.args.hole) r) (sym m))
    c.step_root.ensures.content
