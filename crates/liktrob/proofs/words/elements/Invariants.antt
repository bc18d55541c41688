use Rattle.std.proofs.Common.{◌≡◌, ◌<◌, length, take, IsTrue}
use Rattle.std.specs.List.{All, AllZip}
use Rattle.liktrob.proofs.words.elements.Given as goal

-- there are as many elements as words were read, and room for all, and the words name them unless one of them names none
abbrev pub invariant-loop-word : goal.invariant-loop-word
invariant-loop-word g l = record {
  count : l.elements.len ≡ l.word-index;
  room : l.elements.cap ≡ length l.words;
  below : IsTrue l.all_below → All (λ word. g.F.WordField.word_number word < g.F.CanonicalField.ORDER_U64) (take l.word-index l.words);
  told : All (λ word. g.F.WordField.word_number word < g.F.CanonicalField.ORDER_U64) l.words → IsTrue l.all_below;
  named : IsTrue l.all_below
      → AllZip (λ word x. g.F.WordField.word_number word ≡ g.F.Valued.number (g.F.Valued.value x))
      (take l.word-index l.words) l.elements.items;
}
