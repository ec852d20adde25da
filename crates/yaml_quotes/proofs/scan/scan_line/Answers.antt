use Rattle.std.proofs.Common.{◌<◌, ℕ, ap, length, sym, arith, rules}
use Rattle.std.proofs.lemmas.List.{length-drop}
use Rattle.yaml_quotes.specs.Turns.{closes, fails}
use Rattle.yaml_quotes.proofs.Pieces.{run-behind, piece, piece-gives, piece-joined, piece-open}
use Rattle.yaml_quotes.proofs.scan.scan_line.Goals as goal
use Rattle.yaml_quotes.proofs.scan.scan_line.Goals.{then-joined, else-joined}

pub turn_here-requires : goal.turn_here-requires
turn_here-requires c = rw c.split_plain.ensures.back (run-behind _ c.pieces.rest.now)

pub pieces-preserved : goal.pieces-preserved
pieces-preserved c =
    let shorter : length c.in-Char.behind.now < length c.split_plain.result.1.now = c.in-Char.ensures.shorter in
    record {
      same =
          rw (c.in_ok-push-in-Char.ensures.bytes, c.in_ok-push_str-in-Char.ensures.bytes)
          (piece-gives c.args.is_double c.args.line.now _ c.pieces.rest.now c.split_plain.result.0.now c.split_plain.result.1.now c.in-Char.character c.in-Char.behind.now c.pieces.invariant.same c.split_plain.ensures.front c.split_plain.ensures.back c.in-Char.ensures.value);
      within = omega (arith, c.pieces.invariant.within, ap length c.split_plain.ensures.back, length-drop {A = ℕ});
      utf8 = search rules;
    }

pub returns-in-Closed-clause-held : goal.returns-in-Closed-clause-held
returns-in-Closed-clause-held c =
    rw c.in_ok-push_str-in-Closed.ensures.bytes
    (sym (piece c.args.is_double c.args.line.now _ c.pieces.rest.now c.split_plain.result.0.now c.split_plain.result.1.now (closes c.in-Closed.behind.now) c.pieces.invariant.same c.split_plain.ensures.front c.split_plain.ensures.back c.in-Closed.ensures.value))

pub returns-in-Wrong-clause-held : goal.returns-in-Wrong-clause-held
returns-in-Wrong-clause-held c =
    sym (piece c.args.is_double c.args.line.now _ c.pieces.rest.now c.split_plain.result.0.now c.split_plain.result.1.now fails c.pieces.invariant.same c.split_plain.ensures.front c.split_plain.ensures.back c.in-Wrong.ensures.value)

pub returns-in-LineEnd-clause-held : goal.returns-in-LineEnd-clause-held
returns-in-LineEnd-clause-held c =
    rw c.in_ok-push_str-in-LineEnd.ensures.bytes
    (elim c.if-joined.branch [
      | then-joined w ↦
          rw w.push_str-is
          (piece-joined c.args.is_double c.args.line.now _ c.pieces.rest.now c.split_plain.result.0.now c.split_plain.result.1.now c.in-LineEnd.joined w.if-joined.true c.pieces.invariant.same c.split_plain.ensures.front c.split_plain.ensures.back c.in-LineEnd.ensures.value)
      | else-joined w ↦
          rw (w.push_str-is, w.trim_end.ensures)
          (piece-open c.args.is_double c.args.line.now _ c.pieces.rest.now c.split_plain.result.0.now c.split_plain.result.1.now c.in-LineEnd.joined w.if-joined.false c.pieces.invariant.same c.split_plain.ensures.front c.split_plain.ensures.back c.in-LineEnd.ensures.value)
    ])
