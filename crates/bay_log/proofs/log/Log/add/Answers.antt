use Rattle.std.proofs.Common.{◌≡◌, ◌+◌, ◌<◌, ◌^◌, ◌++◌, ◌∷◌, [], ℕ, List, length, ap, ◌∙◌, sym, subst, arith}
use Rattle.bay_log.specs.declared.line.Line.{Line}
use Rattle.bay_log.specs.Lines.{line_text, bay_of}
use Rattle.bay_log.specs.Kept.{Keeps}
use Rattle.bay_log.proofs.Appended.{keeps_more, keeps_end, bay_more}
use Rattle.bay_log.proofs.log.Log.add.Goals as goal

pub invariant_of-self-2 : goal.invariant_of-self-2
invariant_of-self-2 c =
    let l = c.self.inside in
    let line : Line = c.args.line.now in
    let words : List ℕ = line_text l.sum line in
    let size : length c.put_line-sum.new.text.items ≡ length words = ap (λ (t : List ℕ). length t) c.put_line-sum.ensures.text in
    let i = c.self.invariant.keeps in
    let end = keeps_end l.past.lines l.text.items l.base l.sent l.sum i in
    let room : l.base + length l.text.items + length words < 2 ^ 64 = omega (arith, size, c.if-len-self.false, end, i.room) in
    let k = keeps_more l.past.lines l.text.items l.base l.sent l.sum line i c.put_line-sum.ensures.fits c.requires room in
    let text : l.text.items ++ words ≡ c.extend_from_slice.new.self.items =
    sym (c.in_ok-extend_from_slice.ensures.items ∙ ap (λ (t : List ℕ). l.text.items ++ t) (c.deref.ensures.0 ∙ c.put_line-sum.ensures.text)) in
    record {
      keeps =
          subst (λ (x : List Line). Keeps x c.extend_from_slice.new.self.items l.base l.sent c.put_line-sum.result) (sym c.after-self-inside.ensures)
          (subst (λ (t : List ℕ). Keeps (l.past.lines ++ line ∷ []) t l.base l.sent c.put_line-sum.result) text
          (subst (λ (s : List ℕ). Keeps (l.past.lines ++ line ∷ []) (l.text.items ++ words) l.base l.sent s) (sym c.put_line-sum.ensures.sum) k));
      bay = subst (λ (x : List Line). bay_of x ≡ l.bay) (sym c.after-self-inside.ensures) (bay_more l.past.lines line i.begun ∙ c.self.invariant.bay);
    }
