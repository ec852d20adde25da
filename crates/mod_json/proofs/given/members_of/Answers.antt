use Rattle.std.proofs.Common.{sym, ◌∙◌}
use Rattle.mod_json.proofs.Giving.{members_of_list, members_of_map}
use Rattle.mod_json.proofs.given.members_of.Goals as goal

pub returns-in-List-clause-members : goal.returns-in-List-clause-members
returns-in-List-clause-members c = c.len.ensures ∙ sym (members_of_list c.args.tree.now c.in-List.trees c.in-List.is)

pub returns-in-Map-clause-members : goal.returns-in-Map-clause-members
returns-in-Map-clause-members c = c.len-in-Map.ensures ∙ sym (members_of_map c.args.tree.now c.in-Map.pairs c.in-Map.is)
