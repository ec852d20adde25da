use Rattle.std.proofs.Common.{Err, arith, map, rules, string_bytes}
use Rattle.std.proofs.lemmas.Grind.{common_steps}
use Rattle.ytt_words.proofs.Walk.{asks_for}
use Rattle.ytt_words.specs.declared.words.WordsStop.TheVariants as stop
use Rattle.ytt_words.proofs.words.read_words.Goals as goal

pub returns-in-None-clause-spelled : goal.returns-in-None-clause-spelled
returns-in-None-clause-spelled c = asks_for (map string_bytes c.args.words.now) (Err (stop.Wrong 1)) (grind (arith, common_steps))

pub returns-in-Some-verb_named-clause-spelled : goal.returns-in-Some-verb_named-clause-spelled
returns-in-Some-verb_named-clause-spelled c = asks_for (map string_bytes c.args.words.now) c.read_options.result (search rules)

pub returns-in-None-verb_named-clause-spelled : goal.returns-in-None-verb_named-clause-spelled
returns-in-None-verb_named-clause-spelled c = asks_for (map string_bytes c.args.words.now) c.read_options-in-None-verb_named.result (search rules)
