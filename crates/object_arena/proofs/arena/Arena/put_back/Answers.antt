use Rattle.object_arena.proofs.Names.{seen, back_again}
use Rattle.object_arena.proofs.arena.Arena.put_back.Goals as goal

pub returns : goal.returns
returns c = λ a out. back_again c.args.at c.args.object a (seen c.args.self.now) (seen c.replace.new.self) out c.replace.ensures.store c.replace.ensures.held c.replace.ensures.grows
