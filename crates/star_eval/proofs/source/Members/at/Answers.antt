use Rattle.std.proofs.Common.{subst}
use Rattle.star_values.specs.Objects.{seen}
use Rattle.star_eval.specs.Sources.{OwnsMembers}
use Rattle.star_eval.proofs.Counted.{number_owned, number_seen, tuple_owned, tuple_seen}
use Rattle.star_eval.proofs.source.Members.at.Goals as goal

pub returns-in-Tuple-clause-member : goal.returns-in-Tuple-clause-member
returns-in-Tuple-clause-member c = tuple_seen (seen c.args.arena.now) c.args.self.now c.in-Tuple.tuple c.tuple.result.now c.args.place c.value_at-in-Tuple.result c.in-Tuple.is c.value_at-in-Tuple.ensures c.tuple.ensures.members

pub returns-in-Tuple-clause-owned : goal.returns-in-Tuple-clause-owned
returns-in-Tuple-clause-owned c = tuple_owned (seen c.args.arena.now) c.args.self.now c.in-Tuple.tuple c.tuple.result.now c.args.place c.value_at-in-Tuple.result c.in-Tuple.is c.value_at-in-Tuple.ensures c.tuple.ensures.owns

pub returns-in-Lent-clause-owned : goal.returns-in-Lent-clause-owned
returns-in-Lent-clause-owned c = let a = seen c.args.arena.now in c.member.ensures.owned a (subst (OwnsMembers a) c.in-Lent.is c.requires)

pub returns-in-Numbers-clause-member : goal.returns-in-Numbers-clause-member
returns-in-Numbers-clause-member c = number_seen (seen c.args.arena.now) c.args.self.now c.in-Numbers.numbers c.args.place c.number_found.result c.in-Numbers.is c.number_found.ensures

pub returns-in-Numbers-clause-owned : goal.returns-in-Numbers-clause-owned
returns-in-Numbers-clause-owned c = number_owned (seen c.args.arena.now) c.args.self.now c.in-Numbers.numbers c.args.place c.number_found.result c.in-Numbers.is c.number_found.ensures
