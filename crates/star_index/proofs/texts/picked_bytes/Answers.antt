use Rattle.star_steps.proofs.Names.{◌≡◌, ◌+◌, ◌<◌, ◌++◌, ◌∙◌}
use Rattle.star_index.proofs.Names.{BytesSoFar, ap, bytes_begin, bytes_done, bytes_next, bytes_refused, done, drop, false, is_whole, place_count, places_in, rules, seen, state_in, string_bytes, subst, sym, take, true}
use Rattle.star_index.proofs.texts.picked_bytes.Goals as goal

pub returns-in-None : goal.returns-in-None
returns-in-None c n =
    let q = c.args.places.now in
    let below : c.loop-number.number < place_count (places_in q) = search rules in
    let cuts : is_whole c.args.text.now c.at-at.result (c.at-at.result + 1) ≡ false = search rules in
    rw c.refusal.ensures (bytes_refused c.args.text.now (string_bytes c.loop-number.bytes) (place_count (places_in q)) q.first q.step c.loop-number.number c.at-at.result below c.loop-number.invariant c.at-at.ensures cuts c.args.place (state_in (seen c.args.arena.now) n))

pub loop-number-preserved : goal.loop-number-preserved
loop-number-preserved c =
    let q = c.args.places.now in
    let a = c.at-at.result in
    let t = c.args.text.now in
    let below : c.loop-number.number < place_count (places_in q) = search rules in
    let whole : (is_whole t a (a + 1) ≡ true) × (c.in-Some.byte.now ≡ drop a (take (a + 1) t)) = c.in-Some.ensures in
    subst (λ l. BytesSoFar t (place_count (places_in q)) q.first q.step l (c.loop-number.number + 1)) (sym (c.in_ok-append-in-Some.ensures ∙ ap (λ l. string_bytes c.loop-number.bytes ++ l) whole.1))
    (bytes_next t (string_bytes c.loop-number.bytes) (place_count (places_in q)) q.first q.step c.loop-number.number a below c.loop-number.invariant c.at-at.ensures whole.0)

pub returns : goal.returns
returns c n =
    let q = c.args.places.now in
    let all : c.loop-number.number ≡ place_count (places_in q) = search rules in
    bytes_done c.args.text.now (string_bytes c.loop-number.bytes) (place_count (places_in q)) q.first q.step (subst (BytesSoFar c.args.text.now (place_count (places_in q)) q.first q.step (string_bytes c.loop-number.bytes)) all c.loop-number.invariant) c.args.place (state_in (seen c.args.arena.now) n)
    ∙ ap (λ l. done l (state_in (seen c.args.arena.now) n)) (sym c.of_string.ensures)

pub loop-number-init : goal.loop-number-init
loop-number-init c = bytes_begin c.args.text.now _ (place_count (places_in c.args.places.now)) c.args.places.now.first c.args.places.now.step c.new-bytes.ensures.bytes
