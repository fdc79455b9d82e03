-- One more stands at the place that it takes, and the list is kept; a full list stays as it is.
use Rattle.std.proofs.Common.{◌≡◌, [], ◌∷◌, Some, None, sym, ap, subst, refl, ◌∙◌, set}
use Rattle.waiting_lists.specs.Lists.{Appends, Waits, list_of}
use Rattle.waiting_lists.specs.Waiting.{appended_to}
use Rattle.waiting_lists.proofs.Holding.{waits-appended, waits_full}
use Rattle.waiting_lists.proofs.append_to.Goals as goal

pub returns-in-Some : goal.returns-in-Some
returns-in-Some c =
    let more = c.append.new.list in
    let e : c.keep.new.w ≡ set (set c.args.w.now c.in-Some.place c.args.o.now) 0 (more.order ∷ more.len ∷ 0 ∷ []) =
    c.keep.ensures ∙ ap (λ v. set v 0 (more.order ∷ more.len ∷ 0 ∷ [])) c.put.ensures in
    let appends = subst (λ list. Appends list (Some c.in-Some.place) more) c.list_of-list.ensures c.in-Some.ensures.appends in
    λ ticks globals t l x h room stands.
    subst (λ v. Waits t v (appended_to l x)) (sym e) (waits-appended t c.args.w.now l h c.in-Some.place more c.args.o.now x appends room stands)

pub returns-in_default : goal.returns-in_default
returns-in_default c =
    let same : c.append.new.list ≡ list_of c.args.w.now = c.in_default.ensures.full refl ∙ c.list_of-list.ensures in
    let appends = subst (λ list. Appends list None c.append.new.list) c.list_of-list.ensures c.in_default.ensures.appends in
    λ ticks globals t l x h room stands. waits_full t c.args.w.now l h c.args.o.now x (subst (Appends (list_of c.args.w.now) None) same appends) room stands
