-- Small table files, each the lines given, with what the definitions say of them.
use Rattle.std.specs.Prelude.{◌≡◌, ℕ, zero, suc, false, List, [], ◌∷◌, ◌++◌, codes, Some, None}
use Rattle.std.specs.List.{join_with_byte}
use Rattle.collation_table.specs.Table.{TableMap, row_of, longest_prefix, implicit_weights, longest_mapped, most_elements, class_of}
use Rattle.collation_table.specs.declared.limits.TheConstants.{MOST_STRING_POINTS, MOST_ROW_ELEMENTS, MOST_ENTRY_LINES, MOST_RANGE_LINES}
use Rattle.collation_table.specs.Faults.{forms_of, map_of, tailored_map, table_fault, tailored_fault}

-- the lines of a file, the last without an end
abbrev pub file : List (List ℕ) → List ℕ
file lines = join_with_byte 10 lines

abbrev pub table_of : List (List ℕ) → TableMap
table_of lines = map_of (forms_of (file lines))

-- the fault that the file of these lines has
abbrev pub HasFault : List (List ℕ) → ℕ → ℕ → Type 0
HasFault lines kind line = table_fault (file lines) ≡ Some (record { line = line; kind = kind })

-- the file of these lines has no fault, its longest mapped string so many code points, and its largest row so many elements
pub record IsTable (lines : List (List ℕ)) (points elements : ℕ) : Type 0 where
  pub accepted : table_fault (file lines) ≡ None
  pub longest : longest_mapped (table_of lines) ≡ points
  pub largest : most_elements (table_of lines) ≡ elements

-- the fault that the file of the first lines and the tailor of the others have
abbrev pub HasTailoredFault : List (List ℕ) → List (List ℕ) → ℕ → ℕ → Type 0
HasTailoredFault lines tailor kind line = tailored_fault (file lines) (file tailor) ≡ Some (record { line = line; kind = kind })

-- they have none, and sizes as above
pub record IsTailored (lines tailor : List (List ℕ)) (points elements : ℕ) : Type 0 where
  pub accepted : tailored_fault (file lines) (file tailor) ≡ None
  pub longest : longest_mapped (tailored_map (file lines) (file tailor)) ≡ points
  pub largest : most_elements (tailored_map (file lines) (file tailor)) ≡ elements

-- a text so many times
abbrev pub copies : ℕ → List ℕ → List ℕ
copies zero text = []
copies (suc n) text = text ++ copies n text

-- letters with a contraction and accents, a soft hyphen, a radical with a pair
abbrev pub letters : List (List ℕ)
letters =
    codes "@version 0.0.0" ∷
    codes "0020 ; [*0201.0020.0002]" ∷
    codes "002D ; [*0202.0020.0002]" ∷
    codes "0061 ; [.1C00.0020.0002]" ∷
    codes "0041 ; [.1C00.0020.0008]" ∷
    codes "0062 ; [.1C10.0020.0002]" ∷
    codes "0063 ; [.1C20.0020.0002]" ∷
    codes "0063 0068 ; [.1C28.0020.0002]" ∷
    codes "0065 ; [.1C40.0020.0002]" ∷
    codes "0068 ; [.1C50.0020.0002]" ∷
    codes "006D ; [.1C60.0020.0002]" ∷
    codes "0072 ; [.1C70.0020.0002]" ∷
    codes "0073 ; [.1C80.0020.0002]" ∷
    codes "0075 ; [.1C90.0020.0002]" ∷
    codes "0075 0301 ; [.1C98.0020.0002]" ∷
    codes "0300 ; [.0000.0025.0002]" ∷
    codes "0301 ; [.0000.0024.0002]" ∷
    codes "0327 ; [.0000.0030.0002]" ∷
    codes "20DD ; [.0000.0040.0002]" ∷
    codes "00AD ; [.0000.0000.0000]" ∷
    codes "2F00 ; [.FB40.0020.0004][.CE00.0000.0000]" ∷ []

-- lines that can't be read, or name no code point
pub record LineFaults : Type 0 where
  pub short_code_point : HasFault (codes "61 ; [.1C00.0020.0002]" ∷ []) 1 1
  pub lower_case_weight : HasFault (codes "0061 ; [.1c00.0020.0002]" ∷ []) 1 1
  pub beyond_unicode : HasFault (codes "110000 ; [.1C00.0020.0002]" ∷ []) 2 1
  -- of several faults of a line, the smallest kind
  pub smallest_kind : HasFault (codes "110000 ; [.1C00.0000.0002]" ∷ []) 2 1
  -- of several lines at fault, the first
  pub first_line_at_fault : HasFault (codes "0061 ; [.1C00.0000.0002]" ∷ codes "61 ; x" ∷ []) 5 1
  -- a line at fault before a fault of the whole table
  pub line_before_table : HasFault (codes "0301 ; [.0000.0020.0002]" ∷ codes "0061 ; [.9000.0000.0000]" ∷ []) 10 2

-- entry lines that break a condition
pub record RowFaults : Type 0 where
  pub mapped_twice_by_value : HasFault (codes "0061 ; [.1C00.0020.0002]" ∷ codes "000061 ; [.1C01.0020.0002]" ∷ []) 3 2
  pub string_of_65 : HasFault ((copies 65 (codes "0061 ") ++ codes "; [.1C00.0020.0002]") ∷ []) 4 1
  pub row_of_129 : HasFault ((codes "0061 ; " ++ copies 129 (codes "[.1C00.0020.0002]")) ∷ []) 4 1
  pub primary_alone : HasFault (codes "0061 ; [.1C00.0000.0000]" ∷ []) 5 1
  pub primary_skips_a_level : HasFault (codes "0061 ; [.1C00.0000.0002]" ∷ []) 5 1
  pub variable_with_no_primary : HasFault (codes "0020 ; [*0000.0000.0000]" ∷ []) 7 1
  pub follower_alone : HasFault (codes "0061 ; [.9000.0000.0000]" ∷ []) 10 1
  pub lead_alone : HasFault (codes "4E00 ; [.FB40.0020.0002]" ∷ []) 10 1
  pub lead_without_follower : HasFault (codes "0061 ; [.FB40.0020.0002][.1C00.0020.0002]" ∷ []) 10 1
  pub two_followers : HasFault (codes "2F00 ; [.FB40.0020.0004][.CE00.0000.0000][.CE01.0000.0000]" ∷ []) 10 1
  pub variable_lead : HasFault (codes "0061 ; [*FB00.0020.0002]" ∷ []) 10 1

-- range lines that break a condition
pub record RangeFaults : Type 0 where
  pub base_of_no_range : HasFault (codes "@implicitweights 17000..18AFF; FB40" ∷ []) 11 1
  pub range_backwards : HasFault (codes "@implicitweights 17005..17000; FB00" ∷ []) 11 1
  pub shared_code_point : HasFault (codes "@implicitweights 17000..17005; FB00" ∷ codes "@implicitweights 17005..17006; FB00" ∷ []) 11 2
  pub range_too_far : HasFault (codes "@implicitweights 17000..17000; FB00" ∷ codes "@implicitweights 1F000..1F000; FB00" ∷ []) 11 2

-- files whose lines are each right
pub record TableFaults : Type 0 where
  pub empty_file : HasFault ([]) 12 0
  pub comment_only : HasFault (codes "# only a comment" ∷ []) 12 0
  pub range_alone : HasFault (codes "@implicitweights 17000..18AFF; FB00" ∷ []) 12 0
  pub low_secondary : HasFault (codes "0301 ; [.0000.0020.0002]" ∷ []) 6 0
  pub low_tertiary : HasFault (codes "0061 ; [.1C00.0020.0002]" ∷ codes "0062 ; [.0000.0000.0002]" ∷ []) 6 0
  pub between_variables : HasFault (codes "0020 ; [*0201.0020.0002]" ∷ codes "002D ; [*0203.0020.0002]" ∷ codes "0061 ; [.0202.0020.0002]" ∷ []) 8 0
  pub prefix_that_is_not_mapped : HasFault (codes "0061 ; [.1C00.0020.0002]" ∷ codes "0061 0062 0301 ; [.1C01.0020.0002]" ∷ []) 9 0

-- files with no fault
pub record AcceptedTables : Type 0 where
  pub letters_and_accents : IsTable letters 2 2
  pub lead_and_follower : IsTable (codes "2F00 ; [.FB40.0020.0004][.CE00.0000.0000]" ∷ []) 1 2
  pub blanks_and_comment : IsTable (codes "  0061 0062;[.1C00.0020.0002] [.0000.0021.0002]# x" ∷ []) 2 2
  pub range_just_near : IsTable (codes "@implicitweights 17000..17000; FB00" ∷ codes "@implicitweights 1EFFF..1EFFF; FB00" ∷ codes "0061 ; [.1C00.0020.0002]" ∷ []) 1 2
  pub string_of_64 : IsTable ((copies 64 (codes "0061 ") ++ codes "; [.1C00.0020.0002]") ∷ []) 64 2
  pub row_of_128 : IsTable ((codes "0061 ; " ++ copies 128 (codes "[.1C00.0020.0002]")) ∷ []) 1 128

-- files with a tailor
pub record TailoredTables : Type 0 where
  pub comment_only : IsTailored letters (codes "# none" ∷ []) 2 2
  pub row_added : IsTailored letters (codes "0061 0061 ; [.1C05.0020.0002]" ∷ []) 2 2
  pub row_replaced : row_of (tailored_map (file letters) (codes "0062 ; [.1C00.0020.0008]")) (0x62 ∷ []) ≡ Some (record { is_variable = false; w1 = 0x1C00; w2 = 0x20; w3 = 8 } ∷ [])
  pub replaced_row_does_not_count : IsTailored (codes "0061 ; [.1C00.0020.0002][.1C00.0020.0002][.1C00.0020.0002]" ∷ []) (codes "0061 ; [.1C00.0020.0002]" ∷ []) 1 2
  pub prefix_of_the_tailor : IsTailored letters (codes "0065 0327 0301 ; [.1C48.0020.0002]" ∷ codes "0065 0327 ; [.1C46.0020.0002]" ∷ []) 3 2
  pub ranges_in_order : (tailored_map (codes "@implicitweights 17000..17005; FB00") (codes "@implicitweights 16000..16FFF; FB01")).ranges
      ≡ record { first = 0x17000; last = 0x17005; base = 0xFB00 } ∷ record { first = 0x16000; last = 0x16FFF; base = 0xFB01 } ∷ []

pub record TailoredFaults : Type 0 where
  pub between_variables : HasTailoredFault letters (codes "007A ; [.0201.0020.0002]" ∷ []) 8 0
  pub low_secondary : HasTailoredFault letters (codes "0301 ; [.0000.0020.0002]" ∷ []) 6 0
  pub prefix_that_is_not_mapped : HasTailoredFault letters (codes "0065 0327 0301 ; [.1C48.0020.0002]" ∷ []) 9 0
  pub short_code_point : HasTailoredFault letters (codes "61 ; [.1C00.0020.0002]" ∷ []) 61 1
  pub mapped_twice : HasTailoredFault letters (codes "0062 ; [.1C10.0020.0002]" ∷ codes "0062 ; [.1C10.0020.0002]" ∷ []) 63 2
  pub string_of_65 : HasTailoredFault letters ((copies 65 (codes "0061 ") ++ codes "; [.1C00.0020.0002]") ∷ []) 64 1
  pub lead_alone : HasTailoredFault letters (codes "4E00 ; [.FB40.0020.0002]" ∷ []) 70 1
  pub range_of_the_base_shared : HasTailoredFault (codes "@implicitweights 17000..17005; FB00" ∷ []) (codes "@implicitweights 17005..17006; FB00" ∷ []) 71 1
  -- a line of the base at fault before one of the tailor
  pub base_first : HasTailoredFault (codes "61 ; x" ∷ []) (codes "110000 ; [.1C00.0020.0002]" ∷ []) 1 1
  pub no_entry : HasTailoredFault [] [] 12 0

-- the sizes that a table may have
pub record TableLimits : Type 0 where
  pub string_points : MOST_STRING_POINTS ≡ 64
  pub row_elements : MOST_ROW_ELEMENTS ≡ 128
  pub entry_lines : MOST_ENTRY_LINES ≡ 1048576
  pub range_lines : MOST_RANGE_LINES ≡ 256

-- implicit weights of code points (UTS #10, section 10.1.3)
pub record ImplicitWeights : Type 0 where
  pub core_ideograph : implicit_weights (table_of ([])) 0x4E00 ≡ (0xFB40, 0xCE00)
  pub compatibility_ideograph : implicit_weights (table_of ([])) 0xFA0E ≡ (0xFB41, 0xFA0E)
  pub extension_a : implicit_weights (table_of ([])) 0x3400 ≡ (0xFB80, 0xB400)
  pub extension_b : implicit_weights (table_of ([])) 0x20000 ≡ (0xFB84, 0x8000)
  pub hangul : implicit_weights (table_of ([])) 0x1100 ≡ (0xFBC0, 0x9100)
  pub private_use : implicit_weights (table_of ([])) 0xE000 ≡ (0xFBC1, 0xE000)
  pub last_code_point : implicit_weights (table_of ([])) 0x10FFFF ≡ (0xFBE1, 0xFFFF)
  pub tangut : implicit_weights (table_of (codes "@implicitweights 17000..18AFF; FB00" ∷ [])) 0x17005 ≡ (0xFB00, 0x8005)
  pub tangut_supplement : implicit_weights (table_of (codes "@implicitweights 17000..18AFF; FB00" ∷ codes "@implicitweights 18D00..18D8F; FB00" ∷ [])) 0x18D00 ≡ (0xFB00, 0x9D00)

-- how long the longest prefix is that is mapped (UTS #10, S2.1)
pub record LongestPrefixes : Type 0 where
  pub contraction : longest_prefix (table_of letters) (0x63 ∷ 0x68 ∷ 0x61 ∷ []) ≡ 2
  pub no_contraction : longest_prefix (table_of letters) (0x63 ∷ 0x61 ∷ 0x68 ∷ []) ≡ 1
  pub no_prefix : longest_prefix (table_of letters) (0x4E00 ∷ 0x61 ∷ []) ≡ 0

-- canonical combining classes of code points of a mapped string
pub record Classes : Type 0 where
  pub acute : class_of 0x301 ≡ 230
  -- U+0344 is not its own decomposition
  pub decomposed_accent : class_of 0x344 ≡ 0
  pub surrogate : class_of 0xD800 ≡ 0
