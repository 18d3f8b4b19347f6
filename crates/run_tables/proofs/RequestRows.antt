-- A record is that of a row just where it is written as one.
use Rattle.std.proofs.Common.{◌≡◌, ◌^◌, ◌<◌, ◌≤◌, ◌&&◌, ◌==◌, ◌∙◌, ℕ, Bool, true, false, if◌then◌else◌, nat_lt, nat_le, List, [], ◌∷◌, length, Option, Some, None, refl, sym, ap, subst, arith, inl, inr}
use Rattle.std.specs.Prelude.{codes, option_map, ⊤}
use Rattle.std.specs.Fmt.{decimal, digits}
use Rattle.std.specs.Str.{bytes_eq}
use Rattle.std.proofs.lemmas.Bool.{and_parts, cases_Bool, eqb-true, ltb-true, lt-ltb, leb-true, le-leb, ne_eqb, and_from}
use Rattle.csv.specs.Records.{field_at}
use Rattle.reports.specs.Requests.{request_header, access_word, hit_field, request_fields}
use Rattle.reports.specs.Rows.{optional}
use Rattle.sim_base.specs.declared.message.Access.{Access}
use Rattle.sim_base.specs.declared.message.Access.TheVariants.{Read, Write}
use Rattle.request_table.specs.declared.times.RequestTimes.{RequestTimes}
use Rattle.rule_check.specs.Fields.{◌>>=◌, is_empty, text_at}
use Rattle.run_tables.specs.Numbers.{number_written}
use Rattle.run_tables.specs.declared.requests.AskedFields.{AskedFields}
use Rattle.run_tables.specs.declared.requests.TimeFields.{TimeFields}
use Rattle.run_tables.specs.RequestRows.{below_limit, exact_below, replied_in, access_in, hit_in, asked_in, times_in, is_reply_to, follows, in_time, row_of, request_from, request_in, is_request_header}
use Rattle.run_tables.specs.Requests.{IsReplyTo, RequestFits}
use Rattle.run_tables.proofs.Written.{bytes_same, decimal_some, number_back, number_is}

-- WHAT IS MADE OF A VALUE THAT MAY BE MISSING

bind_some : {A B : Type 0} (o : Option A) (f : A → Option B) (y : B) → (o >>= f) ≡ Some y → (x : A) × (o ≡ Some x) × (f x ≡ Some y)
bind_some (Some x) f y h = (x, refl, h)
bind_some None f y h = cc h

if_some : {A : Type 0} (b : Bool) (o : Option A) (y : A) → (if b then o else None) ≡ Some y → (b ≡ true) × (o ≡ Some y)
if_some true o y h = (refl, h)
if_some false o y h = cc h

of_if : {A : Type 0} (b : Bool) (o other : Option A) → b ≡ true → (if b then o else other) ≡ o
of_if true o other h = refl
of_if false o other h = cc h

of_else : {A : Type 0} (b : Bool) (o other : Option A) → b ≡ false → (if b then o else other) ≡ other
of_else false o other h = refl
of_else true o other h = cc h

-- FIELDS

below_is : (limit : ℕ) (o : Option ℕ) (n : ℕ) → below_limit limit o ≡ Some n → (o ≡ Some n) × (n < limit)
below_is limit None n h = cc h
below_is limit (Some m) n h =
    let parts = if_some (nat_lt m limit) (Some m) n h in
    let same : m ≡ n = let p = parts.1 in cc p in
    let less = ltb-true m limit parts.0 in
    (parts.1, omega (arith, less, same))

exact_is : (limit : ℕ) (text : List ℕ) (n : ℕ) → exact_below limit text ≡ Some n → (text ≡ decimal n) × (n < limit)
unfolding exact_below
exact_is limit text n h =
    let parts = below_is limit (number_written text) n h in
    (number_is text n parts.0, parts.1)

exact_back : (limit n : ℕ) → n < limit → limit ≤ 2 ^ 62 → exact_below limit (decimal n) ≡ Some n
unfolding exact_below
exact_back limit n below few =
    ap (below_limit limit) (number_back n (omega (arith, below, few))) ∙ of_if (nat_lt n limit) (Some n) None (lt-ltb n limit below)

-- the cycle of a reply is in its range
abbrev IsCycle : Option ℕ → Type 0
IsCycle None = ⊤
IsCycle (Some cycle) = cycle < 2 ^ 62

some_is : (text : List ℕ) (o : Option ℕ) (value : Option ℕ) → o ≡ exact_below (2 ^ 62) text → option_map (λ number. Some number) o ≡ Some value → (text ≡ optional value) × IsCycle value
some_is text None value e h = cc h
some_is text (Some n) value e h =
    let same : Some n ≡ value = cc h in
    let parts = exact_is (2 ^ 62) text n (sym e) in
    (parts.0 ∙ ap optional same, subst IsCycle same parts.1)

replied_is : (text : List ℕ) (value : Option ℕ) → replied_in text ≡ Some value → (text ≡ optional value) × IsCycle value
unfolding replied_in
replied_is [] value h = let same : None ≡ value = cc h in (ap optional same, subst IsCycle same tt)
replied_is (c ∷ text) value h =
    let some : is_empty (c ∷ text) ≡ false = ne_eqb (length (c ∷ text)) 0 (λ e. omega (arith, e)) in
    let gives = sym (of_else (is_empty (c ∷ text)) (Some None) (option_map (λ number. Some number) (exact_below (2 ^ 62) (c ∷ text))) some) ∙ h in
    some_is (c ∷ text) (exact_below (2 ^ 62) (c ∷ text)) value refl gives

replied_back : (value : Option ℕ) → IsCycle value → replied_in (optional value) ≡ Some value
unfolding replied_in
replied_back None h = refl
replied_back (Some n) h =
    of_else (is_empty (decimal n)) (Some None) (option_map (λ number. Some number) (exact_below (2 ^ 62) (decimal n))) (decimal_some n (omega (arith, h)))
    ∙ ap (option_map (λ number. Some number)) (exact_back (2 ^ 62) n h (omega arith))

access_is : (text : List ℕ) (access : Access) → access_in text ≡ Some access → text ≡ access_word access
unfolding access_in
access_is text access h =
    elim (cases_Bool (bytes_eq text (codes "read"))) [
      | inl read ↦
          let is : Some Read ≡ Some access = sym (of_if (bytes_eq text (codes "read")) (Some Read) (if bytes_eq text (codes "write") then Some Write else None) read) ∙ h in
          let same : Read ≡ access = cc is in
          bytes_same text (codes "read") read ∙ ap access_word same
      | inr other ↦
          let parts = if_some (bytes_eq text (codes "write")) (Some Write) access (sym (of_else (bytes_eq text (codes "read")) (Some Read) (if bytes_eq text (codes "write") then Some Write else None) other) ∙ h) in
          let same : Write ≡ access = let p = parts.1 in cc p in
          bytes_same text (codes "write") parts.0 ∙ ap access_word same
    ]

access_back : (access : Access) → access_in (access_word access) ≡ Some access
unfolding access_in
access_back Read = refl
access_back Write = refl

one_written : decimal 1 ≡ codes "1"
unfolding digits
one_written = refl

zero_written : decimal 0 ≡ codes "0"
unfolding digits
zero_written = refl

hit_is : (text : List ℕ) (hit : Bool) → hit_in text ≡ Some hit → text ≡ hit_field hit
unfolding hit_in
hit_is text hit h =
    elim (cases_Bool (bytes_eq text (codes "1"))) [
      | inl one ↦
          let is : Some true ≡ Some hit = sym (of_if (bytes_eq text (codes "1")) (Some true) (if bytes_eq text (codes "0") then Some false else None) one) ∙ h in
          let same : true ≡ hit = cc is in
          bytes_same text (codes "1") one ∙ sym one_written ∙ ap hit_field same
      | inr other ↦
          let parts = if_some (bytes_eq text (codes "0")) (Some false) hit (sym (of_else (bytes_eq text (codes "1")) (Some true) (if bytes_eq text (codes "0") then Some false else None) other) ∙ h) in
          let same : false ≡ hit = let p = parts.1 in cc p in
          bytes_same text (codes "0") parts.0 ∙ sym zero_written ∙ ap hit_field same
    ]

hit_back : (hit : Bool) → hit_in (hit_field hit) ≡ Some hit
unfolding hit_in
hit_back true = ap hit_in one_written
hit_back false = ap hit_in zero_written

-- WHO ASKS WHAT, AND WHEN

record Asked (fields : List (List ℕ)) (core entry : ℕ) (access : Access) (channel : ℕ) : Type 0 where
  core_is : text_at fields 0 ≡ decimal core
  entry_is : text_at fields 1 ≡ decimal entry
  access_is : text_at fields 2 ≡ access_word access
  channel_is : text_at fields 3 ≡ decimal channel
  core_in : core < 256
  entry_in : entry < 2 ^ 62
  channel_in : channel < 16

abbrev asked_of : ℕ → ℕ → Access → ℕ → AskedFields
asked_of core entry access channel = record { core = core; entry = entry; access = access; channel = channel }

asked_is : (fields : List (List ℕ)) (asked : AskedFields) → asked_in fields ≡ Some asked → Asked fields asked.core asked.entry asked.access asked.channel
unfolding asked_in
asked_is fields asked h =
    let a = bind_some (exact_below 256 (text_at fields 0)) (λ core. exact_below (2 ^ 62) (text_at fields 1) >>= (λ entry. access_in (text_at fields 2) >>= (λ access. exact_below 16 (text_at fields 3) >>= (λ channel. Some (asked_of core entry access channel))))) asked h in
    let b = bind_some (exact_below (2 ^ 62) (text_at fields 1)) (λ entry. access_in (text_at fields 2) >>= (λ access. exact_below 16 (text_at fields 3) >>= (λ channel. Some (asked_of a.0 entry access channel)))) asked a.2 in
    let c = bind_some (access_in (text_at fields 2)) (λ access. exact_below 16 (text_at fields 3) >>= (λ channel. Some (asked_of a.0 b.0 access channel))) asked b.2 in
    let d = bind_some (exact_below 16 (text_at fields 3)) (λ channel. Some (asked_of a.0 b.0 c.0 channel)) asked c.2 in
    let last = d.2 in
    let whole : asked_of a.0 b.0 c.0 d.0 ≡ asked = cc last in
    let core = exact_is 256 (text_at fields 0) a.0 a.1 in
    let entry = exact_is (2 ^ 62) (text_at fields 1) b.0 b.1 in
    let channel = exact_is 16 (text_at fields 3) d.0 d.1 in
    let found : Asked fields a.0 b.0 c.0 d.0 = record {
      core_is = core.0;
      entry_is = entry.0;
      access_is = access_is (text_at fields 2) c.0 c.1;
      channel_is = channel.0;
      core_in = core.1;
      entry_in = entry.1;
      channel_in = channel.1;
    } in
    subst (λ (t : AskedFields). Asked fields t.core t.entry t.access t.channel) whole found

record Times (fields : List (List ℕ)) (issued arrived served : ℕ) (replied : Option ℕ) : Type 0 where
  issued_is : text_at fields 4 ≡ decimal issued
  arrived_is : text_at fields 5 ≡ decimal arrived
  served_is : text_at fields 6 ≡ decimal served
  replied_is : text_at fields 7 ≡ optional replied
  served_in : served < 2 ^ 62
  replied_in : IsCycle replied

abbrev times_of : ℕ → ℕ → ℕ → Option ℕ → TimeFields
times_of issued arrived served replied = record { issued = issued; arrived = arrived; served = served; replied = replied }

times_is : (fields : List (List ℕ)) (times : TimeFields) → times_in fields ≡ Some times → Times fields times.issued times.arrived times.served times.replied
unfolding times_in
times_is fields times h =
    let a = bind_some (exact_below (2 ^ 62) (text_at fields 4)) (λ issued. exact_below (2 ^ 62) (text_at fields 5) >>= (λ arrived. exact_below (2 ^ 62) (text_at fields 6) >>= (λ served. replied_in (text_at fields 7) >>= (λ replied. Some (times_of issued arrived served replied))))) times h in
    let b = bind_some (exact_below (2 ^ 62) (text_at fields 5)) (λ arrived. exact_below (2 ^ 62) (text_at fields 6) >>= (λ served. replied_in (text_at fields 7) >>= (λ replied. Some (times_of a.0 arrived served replied)))) times a.2 in
    let c = bind_some (exact_below (2 ^ 62) (text_at fields 6)) (λ served. replied_in (text_at fields 7) >>= (λ replied. Some (times_of a.0 b.0 served replied))) times b.2 in
    let d = bind_some (replied_in (text_at fields 7)) (λ replied. Some (times_of a.0 b.0 c.0 replied)) times c.2 in
    let last = d.2 in
    let whole : times_of a.0 b.0 c.0 d.0 ≡ times = cc last in
    let issued = exact_is (2 ^ 62) (text_at fields 4) a.0 a.1 in
    let arrived = exact_is (2 ^ 62) (text_at fields 5) b.0 b.1 in
    let served = exact_is (2 ^ 62) (text_at fields 6) c.0 c.1 in
    let replied = replied_is (text_at fields 7) d.0 d.1 in
    let found : Times fields a.0 b.0 c.0 d.0 = record {
      issued_is = issued.0;
      arrived_is = arrived.0;
      served_is = served.0;
      replied_is = replied.0;
      served_in = served.1;
      replied_in = replied.1;
    } in
    subst (λ (t : TimeFields). Times fields t.issued t.arrived t.served t.replied) whole found

-- NINE FIELDS

nine_texts : (fs : List (List ℕ)) (a b c d e f g h i : List ℕ) → length fs ≡ 9 → text_at fs 0 ≡ a → text_at fs 1 ≡ b → text_at fs 2 ≡ c → text_at fs 3 ≡ d → text_at fs 4 ≡ e → text_at fs 5 ≡ f
    → text_at fs 6 ≡ g → text_at fs 7 ≡ h → text_at fs 8 ≡ i → fs ≡ a ∷ b ∷ c ∷ d ∷ e ∷ f ∷ g ∷ h ∷ i ∷ []
unfolding text_at field_at
nine_texts (q ∷ r ∷ s ∷ t ∷ u ∷ v ∷ w ∷ x ∷ y ∷ []) a b c d e f g h i n p0 p1 p2 p3 p4 p5 p6 p7 p8 = cc (p0, p1, p2, p3, p4, p5, p6, p7, p8)
nine_texts (q ∷ r ∷ s ∷ t ∷ u ∷ v ∷ w ∷ x ∷ y ∷ z ∷ rest) a b c d e f g h i n p0 p1 p2 p3 p4 p5 p6 p7 p8 = absurd (omega (arith, n))
nine_texts [] a b c d e f g h i n p0 p1 p2 p3 p4 p5 p6 p7 p8 = absurd (omega (arith, n))
nine_texts (q ∷ []) a b c d e f g h i n p0 p1 p2 p3 p4 p5 p6 p7 p8 = absurd (omega (arith, n))
nine_texts (q ∷ r ∷ []) a b c d e f g h i n p0 p1 p2 p3 p4 p5 p6 p7 p8 = absurd (omega (arith, n))
nine_texts (q ∷ r ∷ s ∷ []) a b c d e f g h i n p0 p1 p2 p3 p4 p5 p6 p7 p8 = absurd (omega (arith, n))
nine_texts (q ∷ r ∷ s ∷ t ∷ []) a b c d e f g h i n p0 p1 p2 p3 p4 p5 p6 p7 p8 = absurd (omega (arith, n))
nine_texts (q ∷ r ∷ s ∷ t ∷ u ∷ []) a b c d e f g h i n p0 p1 p2 p3 p4 p5 p6 p7 p8 = absurd (omega (arith, n))
nine_texts (q ∷ r ∷ s ∷ t ∷ u ∷ v ∷ []) a b c d e f g h i n p0 p1 p2 p3 p4 p5 p6 p7 p8 = absurd (omega (arith, n))
nine_texts (q ∷ r ∷ s ∷ t ∷ u ∷ v ∷ w ∷ []) a b c d e f g h i n p0 p1 p2 p3 p4 p5 p6 p7 p8 = absurd (omega (arith, n))
nine_texts (q ∷ r ∷ s ∷ t ∷ u ∷ v ∷ w ∷ x ∷ []) a b c d e f g h i n p0 p1 p2 p3 p4 p5 p6 p7 p8 = absurd (omega (arith, n))

-- THE STEPS OF A REQUEST

reply_is : (access : Access) (served : ℕ) (replied : Option ℕ) → IsCycle replied → is_reply_to access served replied ≡ true → IsReplyTo access served replied
reply_is access served None cycle h = tt
reply_is Read served (Some replied) cycle h = (ltb-true served replied h, cycle)
reply_is Write served (Some replied) cycle h = cc h

reply_back : (access : Access) (served : ℕ) (replied : Option ℕ) → IsReplyTo access served replied → is_reply_to access served replied ≡ true
reply_back access served None h = refl
reply_back Read served (Some replied) h = lt-ltb served replied h.0
reply_back Write served (Some replied) h = absurd h

reply_cycle : (access : Access) (served : ℕ) (replied : Option ℕ) → IsReplyTo access served replied → IsCycle replied
reply_cycle access served None h = tt
reply_cycle Read served (Some replied) h = h.1
reply_cycle Write served (Some replied) h = absurd h

-- THE ROW

-- a record from which a row is read is written of it, and the row fits
pub record Written (fields : List (List ℕ)) (row : RequestTimes) : Type 0 where
  pub fields_are : fields ≡ request_fields row
  pub fits : RequestFits row

from_is : (fields : List (List ℕ)) (row : RequestTimes) → length fields ≡ 9 → request_from fields ≡ Some row → Written fields row
unfolding request_from
from_is fields row nine h =
    let a = bind_some (asked_in fields) (λ asked. times_in fields >>= (λ times. hit_in (text_at fields 8) >>= (λ hit. in_time (row_of asked times hit)))) row h in
    let b = bind_some (times_in fields) (λ times. hit_in (text_at fields 8) >>= (λ hit. in_time (row_of a.0 times hit))) row a.2 in
    let c = bind_some (hit_in (text_at fields 8)) (λ hit. in_time (row_of a.0 b.0 hit)) row b.2 in
    let made = row_of a.0 b.0 c.0 in
    let d = if_some (follows made) (Some made) row c.2 in
    let asked = asked_is fields a.0 a.1 in
    let times = times_is fields b.0 b.1 in
    let last = d.1 in
    let whole : made ≡ row = cc last in
    let two = and_parts (nat_le made.issued made.arrived && nat_le made.arrived made.served) (is_reply_to made.access made.served made.replied) d.0 in
    let one = and_parts (nat_le made.issued made.arrived) (nat_le made.arrived made.served) two.0 in
    let found : Written fields made = record {
      fields_are = nine_texts fields (decimal made.core) (decimal made.entry) (access_word made.access) (decimal made.channel) (decimal made.issued) (decimal made.arrived) (decimal made.served)
          (optional made.replied) (hit_field made.hit) nine asked.core_is asked.entry_is asked.access_is asked.channel_is times.issued_is times.arrived_is times.served_is times.replied_is
          (hit_is (text_at fields 8) c.0 c.1);
      fits = record {
        core_in_range = asked.core_in;
        entry_in_range = asked.entry_in;
        channel_in_range = asked.channel_in;
        served_in_range = times.served_in;
        issued_first = leb-true made.issued made.arrived one.0;
        arrived_before = leb-true made.arrived made.served one.1;
        reply = reply_is made.access made.served made.replied times.replied_in two.1;
      };
    } in
    subst (Written fields) whole found

pub request_is : (fields : List (List ℕ)) (row : RequestTimes) → request_in fields ≡ Some row → Written fields row
unfolding request_in
request_is fields row h =
    let parts = if_some (length fields == 9) (request_from fields) row h in
    from_is fields row (eqb-true (length fields) 9 parts.0) parts.1

asked_back : (row : RequestTimes) → RequestFits row → asked_in (request_fields row) ≡ Some (record { core = row.core; entry = row.entry; access = row.access; channel = row.channel })
unfolding asked_in text_at field_at
asked_back row fits =
    let core = exact_back 256 row.core fits.core_in_range (omega arith) in
    let entry = exact_back (2 ^ 62) row.entry fits.entry_in_range (omega arith) in
    let access = access_back row.access in
    let channel = exact_back 16 row.channel fits.channel_in_range (omega arith) in
    rw (core, entry, access, channel) refl

times_back : (row : RequestTimes) → RequestFits row → times_in (request_fields row) ≡ Some (record { issued = row.issued; arrived = row.arrived; served = row.served; replied = row.replied })
unfolding times_in text_at field_at
times_back row fits =
    let in_range = fits.served_in_range in
    let first = fits.issued_first in
    let next = fits.arrived_before in
    let issued = exact_back (2 ^ 62) row.issued (omega (arith, in_range, first, next)) (omega arith) in
    let arrived = exact_back (2 ^ 62) row.arrived (omega (arith, in_range, next)) (omega arith) in
    let served = exact_back (2 ^ 62) row.served in_range (omega arith) in
    let replied = replied_back row.replied (reply_cycle row.access row.served row.replied fits.reply) in
    rw (issued, arrived, served, replied) refl

follows_back : (row : RequestTimes) → RequestFits row → follows row ≡ true
follows_back row fits =
    and_from (nat_le row.issued row.arrived && nat_le row.arrived row.served) (is_reply_to row.access row.served row.replied)
    (and_from (nat_le row.issued row.arrived) (nat_le row.arrived row.served) (le-leb row.issued row.arrived fits.issued_first) (le-leb row.arrived row.served fits.arrived_before))
    (reply_back row.access row.served row.replied fits.reply)

-- what is written of a row that fits is read as that row
pub request_back : (row : RequestTimes) → RequestFits row → request_in (request_fields row) ≡ Some row
unfolding request_in request_from text_at field_at
request_back row fits =
    let asked = asked_back row fits in
    let times = times_back row fits in
    let hit = hit_back row.hit in
    let made = of_if (follows row) (Some row) None (follows_back row fits) in
    rw (asked, times, hit) made

-- THE HEADER

pub header_is : (fields : List (List ℕ)) → is_request_header fields ≡ true → fields ≡ request_header
unfolding is_request_header
header_is fields holds =
    let f0 = length fields == 9 in
    let t = λ (k : ℕ) (word : List ℕ). bytes_eq (text_at fields k) word in
    let i = and_parts (f0 && t 0 (codes "core") && t 1 (codes "entry") && t 2 (codes "access") && t 3 (codes "channel") && t 4 (codes "issued") && t 5 (codes "arrived") && t 6 (codes "served") && t 7 (codes "replied")) (t 8 (codes "hit")) holds in
    let h = and_parts (f0 && t 0 (codes "core") && t 1 (codes "entry") && t 2 (codes "access") && t 3 (codes "channel") && t 4 (codes "issued") && t 5 (codes "arrived") && t 6 (codes "served")) (t 7 (codes "replied")) i.0 in
    let g = and_parts (f0 && t 0 (codes "core") && t 1 (codes "entry") && t 2 (codes "access") && t 3 (codes "channel") && t 4 (codes "issued") && t 5 (codes "arrived")) (t 6 (codes "served")) h.0 in
    let f = and_parts (f0 && t 0 (codes "core") && t 1 (codes "entry") && t 2 (codes "access") && t 3 (codes "channel") && t 4 (codes "issued")) (t 5 (codes "arrived")) g.0 in
    let e = and_parts (f0 && t 0 (codes "core") && t 1 (codes "entry") && t 2 (codes "access") && t 3 (codes "channel")) (t 4 (codes "issued")) f.0 in
    let d = and_parts (f0 && t 0 (codes "core") && t 1 (codes "entry") && t 2 (codes "access")) (t 3 (codes "channel")) e.0 in
    let c = and_parts (f0 && t 0 (codes "core") && t 1 (codes "entry")) (t 2 (codes "access")) d.0 in
    let b = and_parts (f0 && t 0 (codes "core")) (t 1 (codes "entry")) c.0 in
    let a = and_parts f0 (t 0 (codes "core")) b.0 in
    nine_texts fields (codes "core") (codes "entry") (codes "access") (codes "channel") (codes "issued") (codes "arrived") (codes "served") (codes "replied") (codes "hit")
    (eqb-true (length fields) 9 a.0) (bytes_same (text_at fields 0) (codes "core") a.1) (bytes_same (text_at fields 1) (codes "entry") b.1) (bytes_same (text_at fields 2) (codes "access") c.1)
    (bytes_same (text_at fields 3) (codes "channel") d.1) (bytes_same (text_at fields 4) (codes "issued") e.1) (bytes_same (text_at fields 5) (codes "arrived") f.1)
    (bytes_same (text_at fields 6) (codes "served") g.1) (bytes_same (text_at fields 7) (codes "replied") h.1) (bytes_same (text_at fields 8) (codes "hit") i.1)

pub header_back : is_request_header request_header ≡ true
unfolding is_request_header text_at field_at
header_back = refl
