use Rattle.std.proofs.Common.{ap, sym}
use Rattle.std.specs.HashSet.{contains_text}
use Rattle.ytt_base.specs.Trees.{keys}
use Rattle.ytt_base.specs.View.{pairs_of}
use Rattle.schema_spec.specs.Schemas.{default_of}
use Rattle.schema_check.specs.View.{schema_of, types_of}
use Rattle.schema_check.proofs.Missing.{missing_all, missing_next, missing_past}
use Rattle.schema_check.proofs.Views.{schema_of-is}
use Rattle.schema_check.proofs.filling.add_missing.Goals as goal
use Rattle.schema_check.proofs.filling.add_missing.Goals.{in-Some+in_ok-add_default-in-Some, in-None}

pub loop-at-preserved : goal.loop-at-preserved
loop-at-preserved c =
    let types = types_of c.args.types.now in
    let ks = keys (pairs_of c.args.pairs.now) in
    elim c.match-get.branch [
      | in-Some+in_ok-add_default-in-Some w ↦
          let name = w.in-Some.name.now in
          let schema = w.in-Some.schema.now in
          let known = sym (c.in_ok-names.ensures name) in
          rw (w.filled-is, w.in_ok-add_default-in-Some.ensures)
          (missing_next types c.loop-at.at ks c.loop-at.filled _ (name, schema_of schema) w.in-Some.ensures schema.default (sym (ap default_of (schema_of-is schema)))
          (contains_text c.in_ok-names.names name) known c.loop-at.invariant)
      | in-None w ↦ rw w.filled-is (missing_past types c.loop-at.at ks c.loop-at.filled _ w.in-None.ensures c.loop-at.invariant)
    ]

pub returns : goal.returns
returns c = missing_all (types_of c.args.types.now) c.loop-at.at (keys (pairs_of c.args.pairs.now)) c.loop-at.filled _ (rw c.len-at-end.ensures at c.loop-at-test.false) c.loop-at.invariant
