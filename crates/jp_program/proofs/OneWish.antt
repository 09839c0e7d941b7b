-- Words want one thing, and what is asked for is that.
use Rattle.std.proofs.Common.{◌≡◌, ◌∙◌, ℕ, ◌+◌, inl, inr, Bool, true, false, List, [], ◌∷◌, Option, Some}
use Rattle.std.proofs.Common.{refl, sym, Result, Ok, Err, IsErrAnd, ap, subst, length, unwrap_or, codes}
use Rattle.std.proofs.Common.{None, arith, ◌==◌, ◌||◌, if◌then◌else◌}
use Rattle.std.specs.Prelude.{nat_lt}
use Rattle.std.specs.Str.{chars}
use Rattle.std.specs.Str.Parse.{digits_value, without_leading_plus}
use Rattle.clap.specs.Walk.{Text, Row, all_of}
use Rattle.clap.specs.Kinds.{Kinds, IsAmong}
use Rattle.clap.specs.declared.error.kind.ErrorKind.{ErrorKind}
use Rattle.jp_tree.specs.declared.fault.QueryFault.{QueryFault}
use Rattle.jp_check.specs.Verdict.{IsVerdictIn}
use Rattle.jp_answer.specs.declared.on_fault.OnFault.{OnFault}
use Rattle.jp_answer.specs.declared.on_fault.OnFault.TheVariants.{Stop, KeepGoing}
use Rattle.jp_number.specs.declared.numbers.Numbers.{Numbers}
use Rattle.jp_number.specs.declared.numbers.Numbers.TheVariants.{Whole, Decimals}
use Rattle.jp_field.proofs.OneField.{one_each}
use Rattle.jp_output.specs.Rows.{Path}
use Rattle.jp_output.specs.declared.layout.Ending.{Ending}
use Rattle.jp_output.specs.declared.layout.Ending.TheVariants.{LineFeed, Null}
use Rattle.jp_run.specs.AskedTexts.{IsFilterRefused}
use Rattle.jp_run.specs.Status.{status_of}
use Rattle.jp_run.specs.declared.fault.RunFault.{RunFault}
use Rattle.jp_run.specs.declared.fault.RunFault.TheVariants.{Memory}
use Rattle.jp_run.specs.declared.cutting.Cutting.{Cutting}
use Rattle.jp_run.specs.declared.cutting.Cutting.TheVariants as cutting
use Rattle.jp_run.specs.declared.output.Output.{Output}
use Rattle.jp_run.specs.declared.output.Output.TheVariants.{Nodes, Values, Texts, Raw, Rows, Lines}
use Rattle.jp_program.specs.CommandLine.{said, refusals, AsksToShow}
use Rattle.jp_program.specs.Outcome.{IsRefusedWish}
use Rattle.jp_program.specs.Wanted.{ends_with_null}
use Rattle.jp_program.specs.Wanted.{Wanted, SaysNames, SaysNumber, cuts_documents, flag_text, has_decimals}
use Rattle.jp_program.specs.Wanted.{SaysFirst, Wants, WantsCheck, IsWrong, keeps_going, output_text}
use Rattle.jp_program.specs.inner.Invocation.{IsAsked, IsNotAsked, wanted_of}
use Rattle.jp_program.specs.declared.command_line.Invocation.{Invocation}
use Rattle.jp_program.specs.declared.command_line.Invocation.TheVariants.{Query}
use Rattle.jp_program.specs.declared.command_line.Wanted as code

same_some : {A : Type 0} (x y : A) → ◌≡◌ (Some x) (Some y) → x ≡ y
same_some x y e = cc

-- what is said of an option is one thing

-- the first byte of what is said, and of a word that begins with r, which is 114, the second
abbrev first : Option Text → ℕ
first None = 0
first (Some []) = 0
first (Some (b ∷ [])) = b
first (Some (b ∷ c ∷ bs)) = if b == 114 then c else b

pub flag_same : (b d : Bool) → ◌≡◌ (Some (flag_text b)) (Some (flag_text d)) → b ≡ d
flag_same true true e = refl
flag_same false false e = refl
flag_same true false e = absurd (omega (arith, ap (λ (o : Option Text). length (unwrap_or o [])) e))
flag_same false true e = absurd (omega (arith, ap (λ (o : Option Text). length (unwrap_or o [])) e))

number_same : (name : Text) (rows : List Row) (m n : ℕ) → SaysNumber name rows m → SaysNumber name rows n
    → m ≡ n
number_same name rows m n a b = sym a.3
    ∙ ap (λ t. digits_value 10 (without_leading_plus t)) (same_some a.0 b.0 (sym a.1 ∙ b.1)) ∙ b.3

before_same : (rows : List Row) (m n : ℕ) → SaysFirst rows m → SaysFirst rows n → m ≡ n
before_same rows m n a b = omega (arith, number_same (codes "first") rows (m + 1) (n + 1) a.0 b.0)

-- the option and the files say whether lines name theirs
names_same : (rows : List Row) (xs ys : List Text) (m n : Bool) → SaysNames rows xs m → SaysNames rows ys n
    → xs ≡ ys → m ≡ n
names_same rows xs ys m n a b same = a.2
    ∙ ap (λ (t : Bool). t || nat_lt 1 (length xs)) (flag_same a.0 b.0 (sym a.1 ∙ b.1))
    ∙ ap (λ (fs : List Text). b.0 || nat_lt 1 (length fs)) same ∙ sym b.2

-- which form a word names, by that byte
abbrev named : ℕ → Output
named b = if b == 110 then Nodes else (if b == 118 then Values else (if b == 116 then Texts else
    (if b == 97 then Raw else (if b == 111 then Rows else Lines))))

named_is : (x : Output) → named (first (Some (output_text x))) ≡ x
named_is Nodes = refl
named_is Values = refl
named_is Texts = refl
named_is Raw = refl
named_is Rows = refl
named_is Lines = refl

-- what the flag says of the way of cutting
abbrev cutting_of : Bool → Cutting
cutting_of false = cutting.Lines
cutting_of true = cutting.Documents

cut_so : (c : Cutting) → cutting_of (cuts_documents c) ≡ c
cut_so cutting.Lines = refl
cut_so cutting.Documents = refl

cutting_same : (x y : Cutting)
    → ◌≡◌ (Some (flag_text (cuts_documents x))) (Some (flag_text (cuts_documents y))) → x ≡ y
cutting_same x y e = sym (cut_so x) ∙ ap cutting_of (flag_same (cuts_documents x) (cuts_documents y) e)
    ∙ cut_so y

numbers_same : (x y : Numbers)
    → ◌≡◌ (Some (flag_text (has_decimals x))) (Some (flag_text (has_decimals y))) → x ≡ y
numbers_same Whole Whole e = refl
numbers_same Decimals Decimals e = refl
numbers_same Whole Decimals e = absurd (let off : false ≡ true = flag_same false true e in cc)
numbers_same Decimals Whole e = absurd (let on : true ≡ false = flag_same true false e in cc)

on_fault_same : (x y : OnFault)
    → ◌≡◌ (Some (flag_text (keeps_going x))) (Some (flag_text (keeps_going y))) → x ≡ y
on_fault_same Stop Stop e = refl
on_fault_same KeepGoing KeepGoing e = refl
on_fault_same Stop KeepGoing e = absurd (let off : false ≡ true = flag_same false true e in cc)
on_fault_same KeepGoing Stop e = absurd (let on : true ≡ false = flag_same true false e in cc)

ending_same : (x y : Ending)
    → ◌≡◌ (Some (flag_text (ends_with_null x))) (Some (flag_text (ends_with_null y))) → x ≡ y
ending_same LineFeed LineFeed e = refl
ending_same Null Null e = refl
ending_same LineFeed Null e = absurd (let off : false ≡ true = flag_same false true e in cc)
ending_same Null LineFeed e = absurd (let on : true ≡ false = flag_same true false e in cc)

pub output_same : (x y : Output) → ◌≡◌ (Some (output_text x)) (Some (output_text y)) → x ≡ y
output_same x y e = sym (named_is x) ∙ ap (λ o. named (first o)) e ∙ named_is y

pub one_wish : (words : List Text) (v w : Wanted) → Wants words v → Wants words w → v ≡ w
one_wish words v w a b =
    ap (λ (q : List ℕ). record v { query = q }) (same_some v.query w.query (sym a.1.query ∙ b.1.query))
    ∙ ap (λ (f : Option (List ℕ)). record v { query = w.query; filter = f }) (sym a.1.filter ∙ b.1.filter)
    ∙ ap (λ (f : List Text). record v { query = w.query; filter = w.filter; files = f })
    (sym a.1.files.0 ∙ b.1.files.0)
    ∙ ap (λ (n : Bool). record v { query = w.query; filter = w.filter; files = w.files; names = n })
    (names_same (said words) v.files w.files v.names w.names a.1.names b.1.names
    (sym a.1.files.0 ∙ b.1.files.0))
    ∙ ap (λ (c : Cutting). record v {
      query = w.query;
      filter = w.filter;
      files = w.files;
      names = w.names;
      cutting = c;
    })
    (cutting_same v.cutting w.cutting (sym a.1.cutting ∙ b.1.cutting))
    ∙ ap (λ (c : Bool). record v {
      query = w.query;
      filter = w.filter;
      files = w.files;
      names = w.names;
      cutting = w.cutting;
      check = c;
    })
    (flag_same v.check w.check (sym a.1.check ∙ b.1.check))
    ∙ ap (λ (c : Bool). record v {
      query = w.query;
      filter = w.filter;
      files = w.files;
      names = w.names;
      cutting = w.cutting;
      check = w.check;
      counts = c;
    })
    (flag_same v.counts w.counts (sym a.1.counts.0 ∙ b.1.counts.0))
    ∙ ap (λ (o : Output). record v {
      query = w.query;
      filter = w.filter;
      files = w.files;
      names = w.names;
      cutting = w.cutting;
      check = w.check;
      counts = w.counts;
      output = o;
    })
    (output_same v.output w.output (sym a.1.output ∙ b.1.output))
    ∙ ap (λ (e : Ending). record v {
      query = w.query;
      filter = w.filter;
      files = w.files;
      names = w.names;
      cutting = w.cutting;
      check = w.check;
      counts = w.counts;
      output = w.output;
      ending = e;
    })
    (ending_same v.ending w.ending (sym a.1.ending.0 ∙ b.1.ending.0))
    ∙ ap (λ (fs : List Path). record v {
      query = w.query;
      filter = w.filter;
      files = w.files;
      names = w.names;
      cutting = w.cutting;
      check = w.check;
      counts = w.counts;
      output = w.output;
      ending = w.ending;
      fields = fs;
    })
    (one_each (unwrap_or (all_of (codes "field") (said words)) []) v.fields w.fields a.1.fields.0
    b.1.fields.0)
    ∙ ap (λ (n : Numbers). record w {
      numbers = n;
      on_fault = v.on_fault;
      explain = v.explain;
      exit_status = v.exit_status;
      workers = v.workers;
      piece = v.piece;
      batch = v.batch;
      before = v.before;
    })
    (numbers_same v.numbers w.numbers (sym a.1.numbers ∙ b.1.numbers))
    ∙ ap (λ (k : OnFault). record w {
      on_fault = k;
      explain = v.explain;
      exit_status = v.exit_status;
      workers = v.workers;
      piece = v.piece;
      batch = v.batch;
      before = v.before;
    })
    (on_fault_same v.on_fault w.on_fault (sym a.1.on_fault ∙ b.1.on_fault))
    ∙ ap (λ (x : Bool). record w {
      explain = x;
      exit_status = v.exit_status;
      workers = v.workers;
      piece = v.piece;
      batch = v.batch;
      before = v.before;
    })
    (flag_same v.explain w.explain (sym a.1.explain ∙ b.1.explain))
    ∙ ap (λ (e : Bool). record w {
      exit_status = e;
      workers = v.workers;
      piece = v.piece;
      batch = v.batch;
      before = v.before;
    })
    (flag_same v.exit_status w.exit_status (sym a.1.exit_status ∙ b.1.exit_status))
    ∙ ap (λ (n : ℕ). record w { workers = n; piece = v.piece; batch = v.batch; before = v.before })
    (number_same (codes "workers") (said words) v.workers w.workers a.1.settings.0 b.1.settings.0)
    ∙ ap (λ (n : ℕ). record w { piece = n; batch = v.batch; before = v.before })
    (number_same (codes "piece") (said words) v.piece w.piece a.1.settings.1 b.1.settings.1)
    ∙ ap (λ (n : ℕ). record w { batch = n; before = v.before })
    (number_same (codes "batch") (said words) v.batch w.batch a.1.settings.2 b.1.settings.2)
    ∙ ap (λ (n : ℕ). record w { before = n })
    (before_same (said words) v.before w.before a.1.settings.4 b.1.settings.4)

-- words that want something ask to be shown nothing, and are not wrong

among_none : (kind : ErrorKind) (kinds : Kinds) → kinds ≡ [] → IsAmong kind kinds → ⊥
among_none kind kinds e h = subst (IsAmong kind) e h

pub not_shown : {P : Type 0} (words : List Text) (w : Wanted) → Wants words w → AsksToShow words → P
not_shown words w a (inl h) = absurd (among_none _ (refusals words) a.0 h)
not_shown words w a (inr h) = absurd (among_none _ (refusals words) a.0 h)

not_wrong : {P : Type 0} (words : List Text) (w : Wanted) → Wants words w → IsWrong words → P
not_wrong words w a (inl h) = absurd (among_none h.0 (refusals words) a.0 h.1)
not_wrong words w a (inr h) = absurd (h.1 w a.1)

-- where nothing is asked for, memory was wanted
memory_so : (words : List Text) (w : Wanted) (fault : RunFault) → Wants words w → IsNotAsked words fault
    → fault ≡ Memory
memory_so words w fault a (inl h) = not_wrong words w a h.1
memory_so words w fault a (inr e) = e

err_of : {T E : Type 0} (r : Result T E) (e : E) → IsErrAnd r (λ f. f ≡ e) → r ≡ Err e
err_of (Ok x) e h = absurd h
err_of (Err f) e h = ap Err h

err_same : {T : Type 0} (f g : RunFault) → ◌≡◌ {A = Result T RunFault} (Err f) (Err g) → f ≡ g
err_same f g e = cc

pub not_asked : {T : Type 0} (words : List Text) (w : Wanted) (fault : RunFault) (r : Result T RunFault)
    → IsErrAnd r (λ e. e ≡ fault) → IsNotAsked words fault → Wants words w → r ≡ Err Memory
not_asked words w fault r h none a = err_of r fault h ∙ ap Err (memory_so words w fault a none)

-- nothing is refused then
not_two : {P : Type 0} (words : List Text) (f : RunFault) → IsNotAsked words f → status_of f ≡ 2 → P
not_two words f (inl h) two =
    let is : status_of f ≡ 64 = ap status_of h.0 in absurd (omega (arith, two, is))
not_two words f (inr e) two = let is : status_of f ≡ 5 = ap status_of e in absurd (omega (arith, two, is))

pub not_text : {T P : Type 0} (words : List Text) (fault f : RunFault) (r : Result T RunFault)
    → IsErrAnd r (λ e. e ≡ fault) → IsNotAsked words fault → r ≡ Err f → status_of f ≡ 2 → P
not_text {T} words fault f r h none e two =
    let same : f ≡ fault = err_same {T = T} f fault (sym e ∙ err_of r fault h) in
    not_two words f (subst (IsNotAsked words) (sym same) none) two

-- what was asked for is what is wanted

module _ (words : List Text) (a : Invocation) (v : code.Wanted) (w : Wanted) where
  pub asked_is : a ≡ Query v → IsAsked words a → Wants words w → w ≡ wanted_of v
  asked_is e asked wants = one_wish words w (wanted_of v) wants (subst (IsAsked words) e asked)

  pub not_checked : {P : Type 0} → a ≡ Query v → IsAsked words a → WantsCheck words w → v.check ≡ false → P
  not_checked e asked wants off =
      let same : w ≡ wanted_of v = asked_is e asked wants.0 in
      let on : true ≡ false = sym wants.1 ∙ ap (λ (x : Wanted). x.check) same ∙ off in absurd (cc)

module _ (words : List Text) (a : Invocation) (v : code.Wanted) (w : Wanted) where
  -- what is refused of it is refused of what was wanted
  pub refused_wish : (f : RunFault) → a ≡ Query v → IsAsked words a → Wants words w → IsRefusedWish w f
      → IsRefusedWish (wanted_of v) f
  refused_wish f e asked wants = subst (λ (x : Wanted). IsRefusedWish x f)
      (asked_is words a v w e asked wants)

  pub verdict_so : (f : QueryFault) → a ≡ Query v → IsAsked words a → Wants words w
      → IsVerdictIn w.numbers w.query (Err f)
      → IsVerdictIn v.settings.numbers (chars v.query.now) (Err f)
  verdict_so f e asked wants =
      subst (λ (x : Wanted). IsVerdictIn x.numbers x.query (Err f))
      (asked_is words a v w e asked wants)

  pub filter_so : (f : QueryFault) → a ≡ Query v → IsAsked words a → Wants words w
      → IsFilterRefused w.numbers w.filter f
      → IsFilterRefused v.settings.numbers (wanted_of v).filter f
  filter_so f e asked wants =
      subst (λ (x : Wanted). IsFilterRefused x.numbers x.filter f)
      (asked_is words a v w e asked wants)
