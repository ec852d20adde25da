use Rattle.std.proofs.Common.{◌≡◌, ◌≤◌, length, take}
use Rattle.std.specs.Str.{IsCharBoundary}
use Rattle.yaml_spec.specs.Bytes.{trim_end}
use Rattle.yaml_text.proofs.white.trim_end.Given as goal

abbrev pub invariant-loop-end : goal.invariant-loop-end
invariant-loop-end l = record {
  within : l.end ≤ length l.text;
  cut : IsCharBoundary l.text l.end;
  same : trim_end (take l.end l.text) ≡ trim_end l.text;
}

abbrev pub decreases-loop-end : goal.decreases-loop-end
decreases-loop-end l = l.end
