use Rattle.std.proofs.Common.{refl}
use Rattle.std.proofs.lemmas.List.{take_rest}
use Rattle.paper_text.proofs.WordCuts.{words_none, words_cut, words_shorter}
use Rattle.paper_text.proofs.words.Line.of.Goals as goal

pub returns-then-is_empty : goal.returns-then-is_empty
returns-then-is_empty c = record {
  words = words_none c.args.text.now _ _ c.leading.ensures.value (take_rest _ c.leading.result) c.if-is_empty.ensures;
  shorter = tt;
}

pub returns : goal.returns
returns c =
    let at = take_rest c.args.text.now c.leading.result in
    let end = take_rest _ c.leading-end.result in
    record {
      words = words_cut c.args.text.now _ _ _ c.leading.ensures.value at c.if-is_empty.ensures c.leading-end.ensures.value _ _ refl end;
      shorter = words_shorter c.args.text.now _ _ _ c.leading.ensures.value at c.if-is_empty.ensures c.leading-end.ensures.value _ end;
    }
