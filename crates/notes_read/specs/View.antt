-- What a comment says, as plain data.
use Rattle.std.specs.Prelude.{ℕ}
use Rattle.star_tree.specs.Whole.{expr_of, exprs_of, header_of, instructions_of}
use Rattle.template_spec.specs.Comments.{Said, ignored, a_note, a_value, statements, opens, elif, otherwise, closes}
use Rattle.notes_read.specs.declared.comment.Comment.{Comment}
use Rattle.notes_read.specs.declared.comment.Comment.TheVariants as comment

abbrev pub said_of : (file : ℕ) → Comment → Said
said_of file (comment.Code ss) = statements (instructions_of file ss)
said_of file (comment.Open h z) = opens (header_of file h) z
said_of file comment.Else = otherwise
said_of file (comment.Elif e) = elif (expr_of file e)
said_of file comment.End = closes
said_of file (comment.Value e) = a_value (expr_of file e)
said_of file (comment.Note x es) = a_note x (exprs_of file es)
said_of file comment.Ignored = ignored
