use Rattle.std.proofs.Common.{◌≡◌, ◌∙◌, ℕ, ◌+◌, ◌-◌, ◌∷◌, slice_index, sym, ap, arith}
use Rattle.byte_blocks.specs.Sets.{in_set}
use Rattle.byte_blocks.proofs.PassLemmas.{two_pass, two_stop, behind-one}
use Rattle.byte_blocks.proofs.ascii.two_blocks_len_by_keys.Goals as goal

pub returns-clause-passes : goal.returns-clause-passes
returns-clause-passes c =
    let zeros = c.zeros_in_front_of_two.ensures in
    let bytes = c.args.bytes.now in
    let sets = c.args.sets.now in
    let at = c.args.at in
    let behind = c.requires.behind in
    let first = c.load-first.result in
    let second = c.load-second.result in
    let keys_last : in_set sets.key (slice_index bytes (at + 16 - 1)) ≡ slice_index c.members_of-middle.result 15 =
    ap (λ (j : ℕ). in_set sets.key (slice_index bytes j)) (omega arith) ∙ ap (in_set sets.key) (sym (c.load-first.ensures.each 15 (omega arith))) ∙ sym (c.members_of-middle.ensures.each 15 (omega arith)) in
    two_pass sets bytes (slice_index bytes (at - 1) ∷ first) first (slice_index bytes (at + 16 - 1) ∷ second) second at _ behind zeros.within
    (behind-one bytes first at behind c.load-first.ensures.each) c.load-first.ensures.each
    (λ k less. behind-one bytes second (at + 16) (omega arith) c.load-second.ensures.each k less ∙ ap (λ (j : ℕ). slice_index bytes j) (omega arith)) c.load-second.ensures.each
    (λ i low less. (c.key_stops-stops_first.ensures c.requires.keys (slice_index bytes (at - 1)) c.requires.before i low).0 (zeros.first i low less))
    (λ i low less. (c.key_stops-stops_second.ensures c.requires.keys (slice_index bytes (at + 16 - 1)) keys_last i low).0 (zeros.second i low less))

pub returns-clause-stop : goal.returns-clause-stop
returns-clause-stop c = λ few.
    let zeros = c.zeros_in_front_of_two.ensures in
    let bytes = c.args.bytes.now in
    let sets = c.args.sets.now in
    let at = c.args.at in
    let n = c.zeros_in_front_of_two.result in
    let behind = c.requires.behind in
    let first = c.load-first.result in
    let second = c.load-second.result in
    let keys_last : in_set sets.key (slice_index bytes (at + 16 - 1)) ≡ slice_index c.members_of-middle.result 15 =
    ap (λ (j : ℕ). in_set sets.key (slice_index bytes j)) (omega arith) ∙ ap (in_set sets.key) (sym (c.load-first.ensures.each 15 (omega arith))) ∙ sym (c.members_of-middle.ensures.each 15 (omega arith)) in
    two_stop sets bytes (slice_index bytes (at - 1) ∷ first) first (slice_index bytes (at + 16 - 1) ∷ second) second at n behind few
    (behind-one bytes first at behind c.load-first.ensures.each) c.load-first.ensures.each
    (λ k less. behind-one bytes second (at + 16) (omega arith) c.load-second.ensures.each k less ∙ ap (λ (j : ℕ). slice_index bytes j) (omega arith)) c.load-second.ensures.each
    (λ low p. zeros.in_first low ((c.key_stops-stops_first.ensures c.requires.keys (slice_index bytes (at - 1)) c.requires.before n low).1 p))
    (λ high p. zeros.in_second high few ((c.key_stops-stops_second.ensures c.requires.keys (slice_index bytes (at + 16 - 1)) keys_last (n - 16) (omega (arith, high, few))).1 p))

pub returns-clause-last : goal.returns-clause-last
returns-clause-last c =
    let sets = c.args.sets.now in
    let bytes = c.args.bytes.now in
    ap (λ (j : ℕ). in_set sets.key (slice_index bytes j)) (omega arith) ∙ ap (in_set sets.key) (sym (c.load-second.ensures.each 15 (omega arith))) ∙ sym (c.members_of-last.ensures.each 15 (omega arith))
