use Rattle.star_index.proofs.Names.{ap, gives_refused, missing, seen, then_do, value_of}
use Rattle.star_index.proofs.keys.other_key.Goals as goal

pub returns : goal.returns
returns c =
    let a = seen c.args.arena.now in
    let k = value_of a c.args.key in
    gives_refused c.missing.result (missing c.args.place k) a c.key_size.new.steps _ c.missing.ensures (ap (λ o. then_do o (λ u. missing c.args.place k)) c.in_ok-key_size.ensures.meaning)
