-- Two programs worked by hand, and their listings: antt computes both sides. Assumes nothing.
use mathlib.Core.Path.{◌≡◌, refl}
use mathlib.Core.List.{List, [], ◌∷◌, ◌++◌}
use Prim.Native.Nat.{ℕ}
use Prim.Native.String.{String}
use Rattle.codec.specs.Number.{bytes_of}
use Rattle.isa.specs.Text.{bytes}
use Rattle.isa.specs.declared.width.Width.TheVariants.{Narrow, Wide}
use Rattle.console.specs.Digits.{newline}
use Rattle.listing.specs.Listing.{lines_from}
use Rattle.listing.specs.Computed.{listings}

-- lines as bytes
unfoldable text : List String → List ℕ
text [] = []
text (s ∷ ss) = bytes s ++ (newline ∷ text ss)

-- 32-bit words of every form, ignored bits at 0 and at 1
unfoldable program32 : List ℕ
program32 =
    0x0000_0000 ∷ 0x02FF_FFFF ∷ 0x881F_FFFF ∷ 0x07C8_7FDD ∷ 0x0400_7FDD ∷ 0x49CC_7FE0 ∷ 0x4803_801F ∷ 0x500F_FFFF ∷
    0x5A2F_8C3F ∷ 0x5C07_FFFF ∷ 0x6C04_7FE0 ∷ 0x73BF_83FF ∷ 0x75FF_FFFF ∷ 0x7BF8_FFFF ∷ 0x7E38_7C00 ∷ 0x82C7_7FFF ∷
    0x85C0_7FE0 ∷ 0x8FFF_0001 ∷ 0x9100_0000 ∷ 0x94FF_FFFF ∷ 0x9800_0380 ∷ 0x9FFF_FFFF ∷ 0xA3E0_0000 ∷ 0xA7DF_FFFF ∷
    0xBC40_0001 ∷ 0xC3F8_0000 ∷ 0xC000_0000 ∷ 0xC400_0000 ∷ 0xC8FF_FFFF ∷ 0xCC00_03FE ∷ 0xD000_0000 ∷ 0xD400_0000 ∷
    0xD800_0021 ∷ 0xDC00_00FF ∷ 0xE000_7C00 ∷ 0xE400_03E0 ∷ 0xE800_04E2 ∷ 0xEC00_1022 ∷ 0xEE28_1022 ∷ 0xF01F_FC63 ∷
    0xF400_0C23 ∷ 0xF800_0C22 ∷ 0xFDF8_7FFF ∷ 0xFC00_00A6 ∷
    []

unfoldable lines32 : List String
lines32 =
    "00000000 00000000        nop                   " ∷
    "00000004 02FFFFFF        nop                   " ∷
    "00000008 881FFFFF        lli      R31 65535    " ∷
    "0000000C 07C87FDD egt C7 add      R31 R30 R29  " ∷
    "00000010 04007FDD        add      R31 R30 R29  " ∷
    "00000014 49CC7FE0        addi     R31 R31 -256 " ∷
    "00000018 4803801F        addi     R0 R0 255    " ∷
    "0000001C 500FFFFF        andi     R31 R31 511  " ∷
    "00000020 5A2F8C3F lt C0  muli     R3 R1 -1     " ∷
    "00000024 5C07FFFF        slli     R31 R31 31   " ∷
    "00000028 6C047FE0        ld       R31 R31 -256 " ∷
    "0000002C 73BF83FF nc C6  st       R0 R31 -1    " ∷
    "00000030 75FFFFFF        mov      R31 R31      " ∷
    "00000034 7BF8FFFF nc C7  not      R31 R31      " ∷
    "00000038 7E387C00 nc C0  mulhi    R31          " ∷
    "0000003C 82C77FFF        cmp      C3 R31 R31   " ∷
    "00000040 85C07FE0        cmpi     C7 R31 0     " ∷
    "00000044 8FFF0001        lui      R31 1        " ∷
    "00000048 91000000        jmp      -16777216    " ∷
    "0000004C 94FFFFFF        jal      16777215     " ∷
    "00000050 98000380        jmpr     R28          " ∷
    "00000054 9FFFFFFF nc C7  jalr     R31          " ∷
    "00000058 A3E00000        bc       C7 -2097152  " ∷
    "0000005C A7DFFFFF        begt     C7 2097151   " ∷
    "00000060 BC400001        bnc      C1 1         " ∷
    "00000064 C3F80000 nc C7  scall                 " ∷
    "00000068 C0000000        scall                 " ∷
    "0000006C C4000000        retu                  " ∷
    "00000070 C8FFFFFF        reti                  " ∷
    "00000074 CC0003FE        chrs     2            " ∷
    "00000078 D0000000        di                    " ∷
    "0000007C D4000000        ei                    " ∷
    "00000080 D8000021        swm      1            " ∷
    "00000084 DC0000FF        trap     31           " ∷
    "00000088 E0007C00        scon     R31          " ∷
    "0000008C E40003E0        rcon     R31          " ∷
    "00000090 E80004E2        conb     R1 R7 R2     " ∷
    "00000094 EC001022        conh     R4 R2 R1     " ∷
    "00000098 EE281022 lt C0  conh     R4 R2 R1     " ∷
    "0000009C F01FFC63        exb      R31 R3 3     " ∷
    "000000A0 F4000C23        exh      R3 R1 1      " ∷
    "000000A4 F8000C22        exbf     R3 R1 R2     " ∷
    "000000A8 FDF87FFF        exbfi    R31 R31 63 31" ∷
    "000000AC FC0000A6        exbfi    R0 R5 0 6    " ∷
    []

worked_32 : lines_from Wide (bytes_of program32) 0 44 ≡ text lines32
unfolding listings bytes_of text program32 lines32
worked_32 = refl

-- 16-bit words, two to a number
unfoldable program16 : List ℕ
program16 =
    0x0000_0429 ∷ 0x0C11_4BF8 ∷ 0x4FF8_5FFF ∷ 0x6E0F_73D1 ∷ 0x7435_7BC7 ∷ 0x7C05_8018 ∷ 0x8607_8800 ∷ 0x8C00_91FF ∷
    0x9600_9808 ∷ 0xA200_BDFF ∷ 0xC000_C403 ∷ 0xC800_CC03 ∷ 0xD000_D400 ∷ 0xD801_DFFF ∷ 0xE006_E438 ∷ 0xE80F_EC0F ∷
    0xF018_F7FF ∷ 0xF83F_FC00 ∷
    []

unfoldable lines16 : List String
lines16 =
    "00000000 0000            nop                   " ∷
    "00000002 0429            add      R25 R29      " ∷
    "00000004 0C11            sub      R25 R26      " ∷
    "00000006 4BF8            addi     R24 -1       " ∷
    "00000008 4FF8            addiu    R24 127      " ∷
    "0000000A 5FFF            slli     R31 31       " ∷
    "0000000C 6E0F            ld       R31 R25 -8   " ∷
    "0000000E 73D1            st       R25 R26 -1   " ∷
    "00000010 7435            mov      R29 R30      " ∷
    "00000012 7BC7            not      R31 R24      " ∷
    "00000014 7C05            mulhi    R29          " ∷
    "00000016 8018            cmp      R27 R24      " ∷
    "00000018 8607            cmpi     R31 -64      " ∷
    "0000001A 8800            ?                     " ∷
    "0000001C 8C00            ?                     " ∷
    "0000001E 91FF            jmp      511          " ∷
    "00000020 9600            jal      -512         " ∷
    "00000022 9808            jmpr     R25          " ∷
    "00000024 A200            bc       -512         " ∷
    "00000026 BDFF            bnc      511          " ∷
    "00000028 C000            scall                 " ∷
    "0000002A C403            retu                  " ∷
    "0000002C C800            reti                  " ∷
    "0000002E CC03            chrs     3            " ∷
    "00000030 D000            di                    " ∷
    "00000032 D400            ei                    " ∷
    "00000034 D801            swm      1            " ∷
    "00000036 DFFF            trap     31           " ∷
    "00000038 E006            scon     R30          " ∷
    "0000003A E438            rcon     R31          " ∷
    "0000003C E80F            conb     R31 R25      " ∷
    "0000003E EC0F            conh     R31 R25      " ∷
    "00000040 F018            exb      R24 3        " ∷
    "00000042 F7FF            exh      R31 1        " ∷
    "00000044 F83F            exbf     R31 R31      " ∷
    "00000046 FC00            ?                     " ∷
    []

worked_16 : lines_from Narrow (bytes_of program16) 0 36 ≡ text lines16
unfolding listings bytes_of text program16 lines16
worked_16 = refl
