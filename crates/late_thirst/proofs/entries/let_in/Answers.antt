use Rattle.std.proofs.Common.{◌≡◌, ◌<◌, length, List, Option, Some, inl, inr, refl, subst, arith}
use Rattle.late_thirst.specs.declared.asker.Asker.{Asker}
use Rattle.late_thirst.specs.declared.asker.Reason.TheVariants.{Passed, Free}
use Rattle.late_thirst.specs.Outside.{place, IsFirst, NobodyIsDue}
use Rattle.late_thirst.specs.LettingIn.{GoesIn, AreGone}
use Rattle.late_thirst.proofs.Gone.{nobody_went, alone_gone, due_is_outside}
use Rattle.late_thirst.proofs.entries.let_in.Goals as goal

pub returns-in_default : goal.returns-in_default
returns-in_default c =
    let most = c.args.most in let ready = c.args.ready in let old = c.args.places.now in let new = c.passed_go_in-passed.new.places in
    let p = c.passed_go_in-passed.ensures in
    let same : new ≡ old = nobody_went most ready p.many old new (subst (λ n. AreGone old n new) c.if-passed-ne0.false p.gone) p.one_by_one in
    let free : NobodyIsDue (Free c.args.used) ready new = subst (IsFirst (Free c.args.used) ready new (length new)) c.in_default.is c.first_due.ensures in
    inr (inr (subst (NobodyIsDue (Passed most) ready) same p.all, subst (NobodyIsDue (Free c.args.used) ready) same free, refl, same))

pub returns : goal.returns
returns c =
    let most = c.args.most in let ready = c.args.ready in let old = c.args.places.now in let mid = c.passed_go_in-passed.new.places in
    let p = c.passed_go_in-passed.ensures in let k = c.in-Some.job in let used = c.args.used in
    let same : mid ≡ old = nobody_went most ready p.many old mid (subst (λ n. AreGone old n mid) c.if-passed-ne0.false p.gone) p.one_by_one in
    let first : IsFirst (Free used) ready old (length old) (Some k) = subst (λ (l : List (Option Asker)). IsFirst (Free used) ready l (length l) (Some k)) same c.in-Some.ensures in
    let goes : GoesIn most ready k old c.go_in.new.places = subst (λ (l : List (Option Asker)). GoesIn most ready k l c.go_in.new.places) same c.go_in.ensures in
    let few : k < 32 = omega (arith, first.0, c.requires) in
    inr (inl (
      subst (NobodyIsDue (Passed most) ready) same p.all,
      k,
      first,
      goes,
      alone_gone most ready k old c.go_in.new.places few (due_is_outside (Free used) (place old k) first.1.1) goes,
    ))
