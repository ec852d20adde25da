use Rattle.star_file.proofs.ReadFiles.{files_are_code}
use Rattle.star_file.proofs.laws.read_files_are_code.Goals as goal

pub returns : goal.returns
returns c = files_are_code
