use Rattle.yaml_rows.proofs.rows.row_value.Goals as goal

pub returns : goal.returns
returns c before h = rw (h, ← c.owner_of-owner.ensures before) c.read_value.ensures
