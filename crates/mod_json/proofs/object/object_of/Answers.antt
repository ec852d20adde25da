use Rattle.std.proofs.Common.{ap, ◌∙◌}
use Rattle.serde_json.specs.Data.{object}
use Rattle.serde_json.proofs.Views.{view-Object}
use Rattle.mod_json.proofs.Objects.{put_done, put_next}
use Rattle.mod_json.proofs.object.object_of.Goals as goal

pub loop-key-preserved : goal.loop-key-preserved
loop-key-preserved c =
    put_next _ c.loop-key.left c.pop.new.self (c.in-Some.key, c.in-Some.json) c.loop-key.map.entries c.insert.new.self.entries c.loop-key.invariant c.in-Some.ensures c.in_ok-insert.ensures.entries

pub returns : goal.returns
returns c = view-Object c.loop-key.map ∙ ap object (put_done _ c.loop-key.left c.loop-key.map.entries c.loop-key.invariant c.in_default.ensures.0)
