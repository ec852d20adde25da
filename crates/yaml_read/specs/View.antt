-- What is read of a document, seen as plain data.
use Rattle.std.specs.Prelude.{List, Option, option_map}
use Rattle.yaml_pass.specs.Machine as machine
use Rattle.yaml_noted.specs.View.{comments_of, noted_of}
use Rattle.yaml_noted.specs.declared.noted.NotedItem.{NotedItem}
use Rattle.yaml_noted.specs.declared.noted.RawComment.{RawComment}
use Rattle.yaml_entries.specs.View.{found_of}
use Rattle.yaml_read.specs.Documents.{Part}
use Rattle.yaml_read.specs.declared.pass.Passed.{Passed}

abbrev pub passed_of : Passed → machine.Passed
passed_of p = (found_of p.found, comments_of p.after)

-- a document that stands by itself, if there is one, and the comments behind it
abbrev pub part_of : Option NotedItem × List RawComment → Part
part_of p = (option_map noted_of p.0, comments_of p.1)
