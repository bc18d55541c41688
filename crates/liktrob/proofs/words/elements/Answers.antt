use Rattle.std.proofs.Common.{◌<◌, rules, arith, sym}
use Rattle.std.specs.Cmp.Derive.{both_true}
use Rattle.std.proofs.lemmas.List.Elements.{All-more}
use Rattle.liktrob.proofs.Named.{both, one_read}
use Rattle.liktrob.proofs.words.elements.Goals as goal

pub loop-word-preserved : goal.loop-word-preserved
loop-word-preserved g c =
    let number = g.F.WordField.word_number in
    let before = c.loop-word.invariant in
    let tests = both c.loop-word.all_below c.is_below-all_below.result in
    record {
      count = omega (arith, before.count, c.push_reserved.ensures.len);
      room = omega (arith, before.room, c.push_reserved.ensures.capacity);
      below = λ told.
          All-more (λ word. number word < g.F.CanonicalField.ORDER_U64) c.args.words.now c.loop-word.word-index
          c.word-item.result (search rules) (before.below (tests told).0)
          (rw (sym c.word-item.is) (c.is_below-all_below.ensures.0 (tests told).1));
      told =
          λ all. both_true (before.told all) (c.is_below-all_below.ensures.1
          (rw c.word-item.is (all c.loop-word.word-index c.word-item.result (search rules))));
      named = λ told.
          rw c.push_reserved.ensures.items
          (one_read _ c.args.words.now c.loop-word.elements.items c.loop-word.word-index c.from_word.result
          c.word-item.result (search rules) (before.named (tests told).0)
          (rw (sym c.word-item.is) (c.from_word.ensures (c.is_below-all_below.ensures.0 (tests told).1))));
    }
