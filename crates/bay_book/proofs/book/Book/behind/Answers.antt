use Rattle.std.proofs.Common.{List, replicate, refl, sym, subst, true, arith}
use Rattle.std.proofs.lemmas.List.{get_or-replicate}
use Rattle.bay_book.specs.declared.ask.Ask.{Ask}
use Rattle.bay_book.specs.Books.{IsSound}
use Rattle.bay_book.specs.Counted.{AreCounted}
use Rattle.bay_book.specs.Settled.{AreWithin}
use Rattle.bay_book.proofs.Counted.{none_counted}
use Rattle.bay_book.proofs.Settled.{none_within}
use Rattle.bay_book.proofs.Sound.{sound_none}
use Rattle.bay_book.proofs.book.Book.behind.Goals as goal

pub invariant_of-result : goal.invariant_of-result
invariant_of-result c =
    let none = sym c.nobody.ensures in (
      subst (λ (z : List Ask). IsSound (record { asks = z; next = c.max.result; granted = c.args.granted; durable = 0 })) none (sound_none (c.max.result) (c.args.granted) (omega (arith, c.max.ensures))),
      subst (λ (z : List Ask). AreWithin z 0 0) none none_within,
      subst (λ (z : List Ask). AreCounted z (replicate 32 0) 0 true) none (none_counted (replicate 32 0) refl (λ k few. get_or-replicate 32 k 0 0 few)),
    )
