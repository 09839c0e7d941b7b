-- What holds of each read since a run began.
use Rattle.std.proofs.Common.{◌≡◌, List, [], ◌∷◌, ◌++◌, Option, Some, None, sym, ◌∙◌, ap, subst}
use Rattle.std.proofs.Common.{append_assoc, append-nil}
use Rattle.std.proofs.lemmas.List.Elements.{All-append, All-cons, All-nil, All-weaker}
use Rattle.jp_run.specs.Begun.{Begun, OneMore, AllSince}

pub none_yet : (P : Begun → Type 0) (reads now : Option (List Begun)) → now ≡ reads → AllSince reads now P
none_yet P None now e = tt
none_yet P (Some reads) None e = tt
none_yet P (Some reads) (Some now) e =
    let same : now ≡ reads = cc in ([], same ∙ sym (append-nil reads), All-nil P)

-- one more read has begun, of which it holds
pub one_more : (P : Begun → Type 0) (a b same c : Option (List Begun)) (begun : Begun)
    → AllSince a b P → same ≡ b → OneMore same c begun → P begun → AllSince a c P
one_more P a b same c begun h q g p =
    more a b c h (subst (λ (x : Option (List Begun)). OneMore x c begun) q g) where
      more : (a b c : Option (List Begun)) → AllSince a b P → OneMore b c begun → AllSince a c P
      more None b c h g = tt
      more (Some rs) None c h g = subst (λ (x : Option (List Begun)). AllSince (Some rs) x P) (sym g) tt
      more (Some rs) (Some bs) None h g = tt
      more (Some rs) (Some bs) (Some cs) h g = (
        h.0 ++ begun ∷ [],
        g ∙ ap (λ (x : List Begun). x ++ begun ∷ []) h.1 ∙ append_assoc rs h.0 (begun ∷ []),
        All-append P h.0 (begun ∷ []) h.2 (All-cons P begun [] p (All-nil P)),
      )

-- no read has begun since
pub no_more : (P : Begun → Type 0) (a b same : Option (List Begun)) → AllSince a b P → same ≡ b
    → AllSince a same P
no_more P a b same h e = subst (λ (x : Option (List Begun)). AllSince a x P) (sym e) h

-- what holds of each read says another thing of it
pub since_so : (P Q : Begun → Type 0) → ((begun : Begun) → P begun → Q begun) → (a b : Option (List Begun))
    → AllSince a b P → AllSince a b Q
since_so P Q h None b all = tt
since_so P Q h (Some rs) None all = tt
since_so P Q h (Some rs) (Some bs) all = (all.0, all.1, All-weaker P Q h all.0 all.2)
