-- Names in a tree that are texts.
use Rattle.std.specs.Str.{IsUtf8}
use Rattle.json.specs.Json as grammar

-- each name is UTF-8
abbrev mutual
  pub NamesAreTexts : grammar.Json → Type 0
  NamesAreTexts grammar.null = Unit {0}
  NamesAreTexts (grammar.boolean b) = Unit {0}
  NamesAreTexts (grammar.number s) = Unit {0}
  NamesAreTexts (grammar.string s) = Unit {0}
  NamesAreTexts (grammar.array js) = ItemNamesAreTexts js
  NamesAreTexts (grammar.object ms) = MemberNamesAreTexts ms

  pub ItemNamesAreTexts : grammar.Items → Type 0
  ItemNamesAreTexts grammar.no_items = Unit {0}
  ItemNamesAreTexts (grammar.item j js) = NamesAreTexts j × ItemNamesAreTexts js

  pub MemberNamesAreTexts : grammar.Members → Type 0
  MemberNamesAreTexts grammar.no_members = Unit {0}
  MemberNamesAreTexts (grammar.member k j ms) = IsUtf8 k × NamesAreTexts j × MemberNamesAreTexts ms
