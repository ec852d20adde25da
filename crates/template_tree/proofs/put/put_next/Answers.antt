use Rattle.std.proofs.Common.{◌≡◌, [], rules}
use Rattle.template_tree.specs.Puts.{befores_of, puts_of}
use Rattle.template_tree.proofs.Putting.{put_none, put_one}
use Rattle.template_tree.proofs.put.put_next.Goals as goal

pub returns-in_ok-notes-in-Some : goal.returns-in_ok-notes-in-Some
returns-in_ok-notes-in-Some c = λ file ds. put_one file c.args.level ds _ _ c.in-Some.row _ _ _ _ c.in-Some.ensures.items (c.in_ok-notes-in-Some.ensures.puts file) (c.in_ok-notes-in-Some.ensures.notes file)

pub returns-in-None : goal.returns-in-None
returns-in-None c = λ file ds.
    let none : c.args.left.now.items ≡ [] = search rules in
    let left : c.pop.new.self.items ≡ [] = search rules in
    put_none file c.args.level ds _ _ (befores_of file c.args.waiting) (puts_of file c.args.puts.now) none left
