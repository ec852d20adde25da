use Rattle.star_file.proofs.Texts.{gives_read, read_code, read_number}
use Rattle.star_file.proofs.text.read_text.Goals as goal

pub returns-clause-read : goal.returns-clause-read
returns-clause-read c =
    let n = c.args.file in
    let text = c.args.text.now in
    λ r reads. gives_read n text c.in_ok-tokens.tokens c.in_ok-tokens.ensures.cut c.read_file.result (r.file n text) c.read_file.ensures (reads.file n text)

pub returns-clause-file : goal.returns-clause-file
returns-clause-file c = read_number c.args.file c.args.text.now c.in_ok-tokens.tokens c.in_ok-tokens.ensures.cut c.read_file.result c.read_file.ensures

pub returns-clause-code : goal.returns-clause-code
returns-clause-code c = read_code c.args.file c.args.text.now c.in_ok-tokens.tokens c.in_ok-tokens.ensures.cut c.read_file.result c.read_file.ensures
