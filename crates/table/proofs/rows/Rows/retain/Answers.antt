use Rattle.std.proofs.Common.{◌≡◌, ◌+◌, [], ◌∷◌, ◌++◌, length, filter, drop, refl, sym, ap, ◌∙◌, arith, rules, length-append}
use Rattle.std.proofs.lemmas.List.{take_all, drop_more, append_assoc}
use Rattle.table.specs.Counted.{items_of}
use Rattle.table.specs.Tables.{ascends}
use Rattle.table.proofs.Order.{ascends_without}
use Rattle.table.proofs.Kept.{kept, left_out}
use Rattle.table.proofs.Pushes.{fitted}
use Rattle.table.proofs.rows.Rows.retain.Goals as goal
use Rattle.table.proofs.rows.Rows.retain.Goals.{then-keep, else-keep}

pub loop-item-preserved : goal.loop-item-preserved
loop-item-preserved g c =
    let xs = c.as_slice-item-items.result.now in
    let x = c.item-item.result in
    let i = c.loop-item.item-index in
    let old = c.loop-item.self in
    let n : length (items_of old) ≡ old.len = search rules in
    let rest : drop i xs ≡ x ∷ drop (i + 1) xs = drop_more xs i x c.loop-item-test.true ∙ ap (λ y. y ∷ drop (i + 1) xs) (sym c.item-item.is) in
    elim c.if-keep.branch [
      | then-keep w ↦
          let more : items_of w.push.new.self ≡ items_of old ++ (x ∷ []) = fitted w.push.result (items_of old) _ x _ g.row.N w.push.ensures.value (omega (arith, c.loop-item.invariant.0, c.loop-item.invariant.1, c.loop-item-test.true)) w.push.ensures.after in
          let m : length (items_of w.push.new.self) ≡ w.push.new.self.len = search rules in
          rw w.self-is (
            omega (arith, m, ap length more, length-append (items_of old) (x ∷ []), c.loop-item.invariant.0),
            c.loop-item.invariant.1,
            λ p says.
                let said = sym (says x c.keep.result (record { shown = _; shows = refl; says = record { met = c.keep.ensures } })) ∙ w.if-keep.true in
                more ∙ ap (λ ys. ys ++ (x ∷ [])) (c.loop-item.invariant.2 p says) ∙ sym (kept p xs i x c.loop-item-test.true c.item-item.is said),
            λ key a. ap (ascends key) (ap (λ ys. ys ++ drop (i + 1) xs) more ∙ append_assoc (items_of old) (x ∷ []) (drop (i + 1) xs) ∙ ap (λ ys. items_of old ++ ys) (sym rest)) ∙ c.loop-item.invariant.3 key a,
          )
      | else-keep w ↦
          rw w.self-is (
            omega (arith, c.loop-item.invariant.0),
            c.loop-item.invariant.1,
            λ p says.
                let said = sym (says x c.keep.result (record { shown = _; shows = refl; says = record { met = c.keep.ensures } })) ∙ w.if-keep.false in
                c.loop-item.invariant.2 p says ∙ sym (left_out p xs i x c.loop-item-test.true c.item-item.is said),
            λ key a. ascends_without key (items_of old) (drop (i + 1) xs) x (sym (ap (λ ys. ascends key (items_of old ++ ys)) rest) ∙ c.loop-item.invariant.3 key a),
          )
    ]

pub returns-clause-kept : goal.returns-clause-kept
returns-clause-kept g c = λ p says. c.loop-item.invariant.2 p says ∙ ap (filter p) (take_all _ _ c.loop-item-test.false ∙ c.as_slice-item-items.ensures)
