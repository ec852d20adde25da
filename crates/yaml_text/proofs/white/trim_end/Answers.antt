use Rattle.std.proofs.Common.{◌≡◌, ◌-◌, ◌∙◌, sym, true, get_or, take, slice_range, arith}
use Rattle.std.proofs.lemmas.Grind.{common_steps}
use Rattle.yaml_spec.specs.Bytes.{is_white}
use Rattle.yaml_text.proofs.Whites.{trim_end-last, trim_end-done, cut_before_white}
use Rattle.yaml_text.proofs.white.trim_end.Goals as goal
use Rattle.yaml_text.proofs.white.trim_end.Goals.{then-loop-end-test+else-is_white, else-loop-end-test}

pub loop-end-preserved : goal.loop-end-preserved
loop-end-preserved c =
    let t = c.args.text.now in
    let n = c.loop-end.end in
    let h : is_white (get_or t (n - 1) 0) ≡ true = grind (arith, common_steps) in
    record {
      within = omega arith;
      cut = cut_before_white t (n - 1) (omega arith) h;
      same = trim_end-last t n (omega arith) (omega arith) h ∙ c.loop-end.invariant.same;
    }

pub returns : goal.returns
returns c =
    let t = c.args.text.now in
    let n = c.loop-end.end in
    let same : slice_range t 0 n ≡ take n t = grind (arith, common_steps) in
    c.range.ensures.value ∙ same ∙ sym (trim_end-done t n c.loop-end.invariant.within (elim c.loop-end-test.branch [ then-loop-end-test+else-is_white w ↦ λ h. grind (arith, common_steps) | else-loop-end-test w ↦ λ h. absurd (omega arith) ])) ∙ c.loop-end.invariant.same
