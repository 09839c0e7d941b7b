-- The names of general categories in `\p{..}` and `\P{..}`.
use Rattle.std.specs.Prelude.{List, [], ◌∷◌, codes, Contains}
use Rattle.unicode.specs.declared.properties.GeneralCategory.{GeneralCategory}
use Rattle.unicode.specs.declared.properties.GeneralCategory.TheVariants as is
use Rattle.jp_pattern.specs.Pattern.{Text}

-- Each name, and the categories that it means. A name of two letters means one category, and a name of one
-- letter the union of those whose names begin with it. There is no name for surrogates, which are no
-- characters (RFC 9485, 3: IsCategory).
abbrev pub category_names : List (Text × List GeneralCategory)
category_names = (
  codes "L",
  is.LowercaseLetter ∷ is.ModifierLetter ∷ is.OtherLetter ∷ is.TitlecaseLetter
      ∷ is.UppercaseLetter ∷ [],
)
    ∷ (codes "Ll", is.LowercaseLetter ∷ [])
    ∷ (codes "Lm", is.ModifierLetter ∷ [])
    ∷ (codes "Lo", is.OtherLetter ∷ [])
    ∷ (codes "Lt", is.TitlecaseLetter ∷ [])
    ∷ (codes "Lu", is.UppercaseLetter ∷ [])
    ∷ (codes "M", is.SpacingMark ∷ is.EnclosingMark ∷ is.NonspacingMark ∷ [])
    ∷ (codes "Mc", is.SpacingMark ∷ [])
    ∷ (codes "Me", is.EnclosingMark ∷ [])
    ∷ (codes "Mn", is.NonspacingMark ∷ [])
    ∷ (codes "N", is.DecimalNumber ∷ is.LetterNumber ∷ is.OtherNumber ∷ [])
    ∷ (codes "Nd", is.DecimalNumber ∷ [])
    ∷ (codes "Nl", is.LetterNumber ∷ [])
    ∷ (codes "No", is.OtherNumber ∷ [])
    ∷ (
      codes "P",
      is.ConnectorPunctuation ∷ is.DashPunctuation ∷ is.ClosePunctuation
          ∷ is.FinalPunctuation ∷ is.InitialPunctuation ∷ is.OtherPunctuation ∷ is.OpenPunctuation ∷ [],
    )
    ∷ (codes "Pc", is.ConnectorPunctuation ∷ [])
    ∷ (codes "Pd", is.DashPunctuation ∷ [])
    ∷ (codes "Pe", is.ClosePunctuation ∷ [])
    ∷ (codes "Pf", is.FinalPunctuation ∷ [])
    ∷ (codes "Pi", is.InitialPunctuation ∷ [])
    ∷ (codes "Po", is.OtherPunctuation ∷ [])
    ∷ (codes "Ps", is.OpenPunctuation ∷ [])
    ∷ (codes "Z", is.LineSeparator ∷ is.ParagraphSeparator ∷ is.SpaceSeparator ∷ [])
    ∷ (codes "Zl", is.LineSeparator ∷ [])
    ∷ (codes "Zp", is.ParagraphSeparator ∷ [])
    ∷ (codes "Zs", is.SpaceSeparator ∷ [])
    ∷ (codes "S", is.CurrencySymbol ∷ is.ModifierSymbol ∷ is.MathSymbol ∷ is.OtherSymbol ∷ [])
    ∷ (codes "Sc", is.CurrencySymbol ∷ [])
    ∷ (codes "Sk", is.ModifierSymbol ∷ [])
    ∷ (codes "Sm", is.MathSymbol ∷ [])
    ∷ (codes "So", is.OtherSymbol ∷ [])
    ∷ (codes "C", is.Control ∷ is.Format ∷ is.Unassigned ∷ is.PrivateUse ∷ [])
    ∷ (codes "Cc", is.Control ∷ [])
    ∷ (codes "Cf", is.Format ∷ [])
    ∷ (codes "Cn", is.Unassigned ∷ [])
    ∷ (codes "Co", is.PrivateUse ∷ []) ∷ []

-- the name means these categories (RFC 9485, 3: IsCategory)
abbrev pub IsCategoryName : Text → List GeneralCategory → Type 0
IsCategoryName name categories = Contains category_names (name, categories)
